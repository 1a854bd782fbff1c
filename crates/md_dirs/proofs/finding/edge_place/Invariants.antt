use Rattle.std.proofs.Common.{◌-◌}
use Rattle.md_dirs.specs.Find.{edge_zone, IsHalved}
use Rattle.md_dirs.proofs.finding.edge_place.Given as goal

abbrev pub invariant-loop-low : goal.invariant-loop-low
invariant-loop-low g l = IsHalved (g.N.InOrder.rows l.names) l.unique (edge_zone l.edge) l.low l.high

abbrev pub decreases-loop-low : goal.decreases-loop-low
decreases-loop-low g l = l.high - l.low
