use Rattle.std.proofs.Common.{◌≡◌, map, take}
use Rattle.md_dirs.specs.Sortable.{row_number}
use Rattle.md_dirs.proofs.index.sorting.positions_of.Given as goal

abbrev pub invariant-loop-at : goal.invariant-loop-at
invariant-loop-at l = l.order.items ≡ map row_number (take l.at l.sorted)
