use Rattle.md_jobs.specs.Machines.Errand.{new_errand, errand_turn}
use Rattle.md_jobs.specs.Tasks.Views.Errands.{errand_view}
use Rattle.md_system.proofs.Fewer.{errand_left}
use Rattle.md_system.proofs.Runs.{IsUnderWay}
use Rattle.md_system.proofs.running.run_errand.Given as goal

abbrev pub invariant-loop-errand : goal.invariant-loop-errand
invariant-loop-errand g l =
    IsUnderWay (λ e at. errand_turn 1 e) (new_errand l.fn.folder l.fn.unique l.fn.purpose l.fn.tries)
    l.fn.system.log.entries l.system.log.entries (errand_view l.errand)

abbrev pub decreases-loop-errand : goal.decreases-loop-errand
decreases-loop-errand g l = errand_left (errand_view l.errand)
