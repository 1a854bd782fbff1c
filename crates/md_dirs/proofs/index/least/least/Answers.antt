use Rattle.std.proofs.Common.{◌≡◌, ◌+◌, ◌++◌, ◌≤◌, [], Some, length, drop, slice_get, sym, ap, ◌∙◌, arith}
use Rattle.std.specs.Option.{option_map, option_copied}
use Rattle.std.proofs.lemmas.List.{drop_all}
use Rattle.md_dirs.specs.Least.{lent_row, takes}
use Rattle.md_dirs.proofs.NameRows.{Row}
use Rattle.md_dirs.proofs.Least.{joined, joined-none, best, look-on, least-listed, get-ahead}
use Rattle.std.specs.Map.Iter.{deref_pair}
use Rattle.md_dirs.proofs.index.least.least.Goals as goal

pub loop-at-preserved : goal.loop-at-preserved
loop-at-preserved c =
    let p = takes c.args.wanted in
    let keys = c.args.table.now.keys in
    let all = keys ++ c.args.others.now.entries in
    let row : Row = lent_row c.row.result in
    let at : slice_get keys c.loop-at.at ≡ Some row =
    sym c.get_index.ensures.key ∙ ap option_copied c.unwrap.ensures ∙ ap Some (sym c.row.ensures) in
    ap (λ o. joined o (best p (drop (c.loop-at.at + 1) all))) c.looked-best.ensures
    ∙ look-on p all c.loop-at.at row (option_map lent_row c.loop-at.best) (best p all)
    (get-ahead keys c.args.others.now.entries c.loop-at.at row at) c.loop-at.invariant

pub loop-at-2-preserved : goal.loop-at-2-preserved
loop-at-2-preserved c =
    let p = takes c.args.wanted in
    let entries = c.args.others.now.entries in
    let all = c.args.table.now.keys ++ entries in
    let found = c.unwrap-in-loop-at-2.result in
    let row : Row = (c.as_slice.result.now, found.1.now) in
    let at : slice_get entries c.loop-at-2.at ≡ Some row =
    sym c.get_index-in-loop-at-2.ensures.entry ∙ ap (option_map deref_pair) c.unwrap-in-loop-at-2.ensures
    ∙ (λ i. Some (sym c.as_slice.ensures i, found.1.now)) in
    ap (λ o. joined o (best p (drop (c.loop-at-2.at + 1) entries))) c.looked-best-in-loop-at-2.ensures
    ∙ look-on p entries c.loop-at-2.at row (option_map lent_row c.loop-at-2.best) (best p all) at c.loop-at-2.invariant

pub returns : goal.returns
returns c =
    let p = takes c.args.wanted in
    let entries = c.args.others.now.entries in
    let all = c.args.table.now.keys ++ entries in
    let found = option_map lent_row c.loop-at-2.best in
    let past : length entries ≤ c.loop-at-2.at = omega (arith, c.len-at-end-2.ensures.len) in
    let rest : drop c.loop-at-2.at entries ≡ [] = drop_all c.loop-at-2.at entries past in
    sym (joined-none found) ∙ sym (ap (λ es. joined found (best p es)) rest) ∙ c.loop-at-2.invariant ∙ sym (least-listed p all)
