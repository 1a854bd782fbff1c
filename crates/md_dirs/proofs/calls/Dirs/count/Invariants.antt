use Rattle.std.proofs.Common.{◌-◌, ◌≤◌, length}
use Rattle.md_dirs.specs.Rows.{rows_of}
use Rattle.md_dirs.proofs.calls.Dirs.count.Given as goal

abbrev pub invariant-loop-low : goal.invariant-loop-low
invariant-loop-low g l = record {
  from : l.low ≤ length (rows_of (g.Self.Dirs.device l.self).state l.folder l.place);
  to : length (rows_of (g.Self.Dirs.device l.self).state l.folder l.place) ≤ l.high;
}

abbrev pub decreases-loop-low : goal.decreases-loop-low
decreases-loop-low g l = l.high - l.low
