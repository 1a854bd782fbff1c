use Rattle.std.proofs.Common.{◌≡◌, ◌+◌, ◌++◌, None, slice_get, sym, ap, ◌∙◌, arith}
use Rattle.std.specs.Option.{option_map}
use Rattle.std.specs.FinMap.{entries_sorted, from_entries}
use Rattle.md_dirs.specs.Least.{lent_row}
use Rattle.md_dirs.specs.Index.{name_cmp}
use Rattle.md_dirs.proofs.Ordered.{listed}
use Rattle.md_dirs.proofs.Least.{first-of, next-of, none-past}
use Rattle.md_dirs.proofs.index.least.nth.Goals as goal

pub returns-in_err-row : goal.returns-in_err-row
returns-in_err-row c =
    let es = listed (c.args.table.now.keys ++ c.args.others.now.entries) in
    let none : slice_get es 0 ≡ None = sym (first-of es) ∙ sym c.in_err-row.ensures in
    ap (option_map lent_row) c.from_residual.ensures ∙ sym (none-past es 0 c.args.at none (omega arith))

pub loop-place-init : goal.loop-place-init
loop-place-init c = sym (first-of (listed (c.args.table.now.keys ++ c.args.others.now.entries))) ∙ sym c.in_ok-row.ensures

pub returns-in_err-row-2 : goal.returns-in_err-row-2
returns-in_err-row-2 c =
    let m = from_entries {R = name_cmp} (c.args.table.now.keys ++ c.args.others.now.entries) in
    let es = listed (c.args.table.now.keys ++ c.args.others.now.entries) in
    let none : slice_get es (c.loop-place._place + 1) ≡ None =
    sym (next-of es c.loop-place._place (lent_row c.loop-place.row) (entries_sorted m) c.loop-place.invariant) ∙ sym c.in_err-row-2.ensures in
    ap (option_map lent_row) c.from_residual-in_err-row-2.ensures
    ∙ sym (none-past es (c.loop-place._place + 1) c.args.at none (omega arith))

pub loop-place-preserved : goal.loop-place-preserved
loop-place-preserved c =
    let m = from_entries {R = name_cmp} (c.args.table.now.keys ++ c.args.others.now.entries) in
    let es = listed (c.args.table.now.keys ++ c.args.others.now.entries) in
    sym (next-of es c.loop-place._place (lent_row c.loop-place.row) (entries_sorted m) c.loop-place.invariant) ∙ sym c.in_ok-row-2.ensures

pub returns : goal.returns
returns c =
    let es = listed (c.args.table.now.keys ++ c.args.others.now.entries) in
    let end : c.loop-place._place ≡ c.args.at = omega arith in
    sym c.loop-place.invariant ∙ ap (slice_get es) end
