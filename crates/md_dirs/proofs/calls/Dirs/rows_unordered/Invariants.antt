use Rattle.std.proofs.Common.{◌≡◌, ◌-◌, length, take}
use Rattle.md_dirs.specs.Rows.{rows_of}
use Rattle.md_dirs.proofs.calls.Dirs.rows_unordered.Given as goal

abbrev pub invariant-loop-row : goal.invariant-loop-row
invariant-loop-row g l = l.rows.items ≡ take (length l.rows.items) (rows_of (g.Self.Dirs.device l.self).state l.folder l.place)

abbrev pub decreases-loop-row : goal.decreases-loop-row
decreases-loop-row g l = length (rows_of (g.Self.Dirs.device l.self).state l.folder l.place) - length l.rows.items
