use Rattle.std.proofs.Common.{◌<◌}
use Rattle.md_jobs.specs.Machines.Clean.{new_cleaning, cleaning_turn}
use Rattle.md_system.proofs.Fewer.{names_left}
use Rattle.md_system.proofs.Runs.{IsUnderWay}
use Rattle.md_system.proofs.running.clean.Given as goal

abbrev pub invariant-loop-cleaning : goal.invariant-loop-cleaning
invariant-loop-cleaning g l =
    IsUnderWay (λ c at. cleaning_turn c at.own) (new_cleaning l.fn.folder) l.fn.system.log.entries l.system.log.entries l.cleaning
    × (0 < names_left l.cleaning.stage)

abbrev pub decreases-loop-cleaning : goal.decreases-loop-cleaning
decreases-loop-cleaning g l = names_left l.cleaning.stage
