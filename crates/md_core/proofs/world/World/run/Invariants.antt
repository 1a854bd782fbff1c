use Rattle.std.proofs.Common.{take}
use Rattle.md_core.proofs.Values.{TakesAll, IsRun}
use Rattle.md_core.proofs.world.World.run.Given as goal

abbrev pub invariant-loop-at : goal.invariant-loop-at
invariant-loop-at g l = record {
  taken : TakesAll (take l.at l.events) l.fn.self l.self;
  run : IsRun l.self;
}
