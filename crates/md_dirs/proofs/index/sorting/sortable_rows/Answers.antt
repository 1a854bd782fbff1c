use Rattle.std.proofs.Common.{◌≡◌, refl, sym, map, length, arith}
use Rattle.std.proofs.lemmas.List.{length-map}
use Rattle.md_dirs.specs.Least.{lent_row}
use Rattle.md_dirs.proofs.Keyed.{as-key}
use Rattle.md_dirs.proofs.Sorting.{one-more}
use Rattle.md_dirs.proofs.index.sorting.sortable_rows.Goals as goal

pub loop-at-preserved : goal.loop-at-preserved
loop-at-preserved c =
    let es = map lent_row c.args.rows.now in
    let l = c.loop-at in
    let long : length es ≡ length c.args.rows.now = length-map c.args.rows.now lent_row in
    rw c.in_ok-push.ensures.items
    (one-more es l.sortable.items (c.key_of.result, l.at) l.invariant.0 l.invariant.1 (record {
      within = omega (arith, long, c.loop-at-test.true);
      key = as-key refl (sym c.name_at-name.ensures) c.key_of.ensures;
    }))
