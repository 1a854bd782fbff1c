use Rattle.std.proofs.Common.{◌≡◌, ◌++◌, Some, slice_get}
use Rattle.md_dirs.specs.Least.{lent_row}
use Rattle.md_dirs.proofs.Ordered.{listed}
use Rattle.md_dirs.proofs.index.least.nth.Given as goal

abbrev pub invariant-loop-place : goal.invariant-loop-place
invariant-loop-place l = slice_get (listed (l.table.keys ++ l.others.entries)) l._place ≡ Some (lent_row l.row)
