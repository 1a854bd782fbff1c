use Rattle.std.proofs.Common.{◌≡◌, ◌++◌, map, take}
use Rattle.md_dirs.specs.Least.{lent_row}
use Rattle.md_dirs.proofs.index.sorting.all_rows.Given as goal

abbrev pub invariant-loop-at : goal.invariant-loop-at
invariant-loop-at l = map lent_row l.rows.items ≡ take l.at l.table.keys

abbrev pub invariant-loop-at-2 : goal.invariant-loop-at-2
invariant-loop-at-2 l = map lent_row l.rows.items ≡ l.table.keys ++ take l.at l.others.entries
