use Rattle.md_core.specs.Runs.{steps_left}
use Rattle.md_core.proofs.Values.{IsRun, HasJob, GoesOnBy, OthersStay}
use Rattle.md_core.proofs.world.World.finish.Given as goal

abbrev pub invariant-loop-own : goal.invariant-loop-own
invariant-loop-own g l = record {
  run : IsRun l.self;
  there : HasJob l.self l.job;
  goes : GoesOnBy (record { job = l.job; now = l.now; own = l.own }) l.fn.self l.self;
  others : OthersStay l.job l.fn.self l.self;
}

-- each step leaves the job fewer steps
abbrev pub decreases-loop-own : goal.decreases-loop-own
decreases-loop-own g l = steps_left l.self l.job
