use Rattle.std.proofs.Common.{◌≡◌, ◌++◌, ℕ, List}
use Rattle.md_core.specs.Runs.{steps_left}
use Rattle.md_script.specs.Held.{MayWait}
use Rattle.md_script.proofs.Finishing.{Finishes}
use Rattle.md_script.proofs.store.acts.finish.Given as goal

abbrev pub invariant-loop-event : goal.invariant-loop-event
invariant-loop-event g l = (text : List ℕ) × (l.out.items ≡ l.fn.out.items ++ text) × Finishes l.fn.world l.event l.world text × MayWait l.fn.world l.world

abbrev pub decreases-loop-event : goal.decreases-loop-event
decreases-loop-event g l = steps_left l.world l.event.job
