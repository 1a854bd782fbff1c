use Rattle.std.proofs.Common.{◌≡◌, map, take, All}
use Rattle.md_dirs.specs.Least.{lent_row}
use Rattle.md_dirs.specs.Sortable.{IsSortable, row_at}
use Rattle.md_dirs.proofs.index.sorting.sortable_rows.Given as goal

abbrev pub invariant-loop-at : goal.invariant-loop-at
invariant-loop-at l = All (IsSortable (map lent_row l.rows)) l.sortable.items
    × (map (row_at (map lent_row l.rows)) l.sortable.items ≡ take l.at (map lent_row l.rows))
