use Rattle.std.proofs.Common.{◌-◌}
use Rattle.md_dirs.specs.State.{State}
use Rattle.md_dirs.specs.Index.{rows_in}
use Rattle.md_dirs.specs.Find.{IsHalved}
use Rattle.md_dirs.proofs.calls.Dirs.look.Given as goal

abbrev pub invariant-loop-low : goal.invariant-loop-low
invariant-loop-low g l = let s : State = (g.Self.Dirs.device l.self).state in IsHalved (rows_in s.names l.folder l.place) l.unique 1 l.low l.high

abbrev pub decreases-loop-low : goal.decreases-loop-low
decreases-loop-low g l = l.high - l.low

abbrev pub invariant-loop-from : goal.invariant-loop-from
invariant-loop-from g l = let s : State = (g.Self.Dirs.device l.self).state in IsHalved (rows_in s.names l.folder l.place) l.unique 3 l.from l.end

abbrev pub decreases-loop-from : goal.decreases-loop-from
decreases-loop-from g l = l.end - l.from
