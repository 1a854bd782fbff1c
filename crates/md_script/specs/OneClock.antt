-- Stores whose jobs all go by the clock of the store.
use Rattle.std.specs.Prelude.{◌≡◌, Some}
use Rattle.md_jobs.specs.declared.answer.Answer.TheVariants.{TmpGone}
use Rattle.md_jobs.specs.declared.step.Event.{Event}
use Rattle.md_jobs.specs.declared.step.StepOut.{StepOut}
use Rattle.md_core.specs.Runs.{Run, and_event}
use Rattle.md_core.specs.Stepping.{IsRun}
use Rattle.md_core.specs.Tracing.{HasOneClock}
use Rattle.md_script.specs.Sessions.{without_fault, shown_step}

-- After a step all jobs still go by the clock of the store, and the step doesn't answer `tmpgone`.
pub record KeepsOneClock (r : Run) (event : Event) : Type 0 where
  pub run : IsRun (and_event r (without_fault event))
  pub one_clock : HasOneClock (and_event r (without_fault event))
  pub never_gone : (out : StepOut) → shown_step r event ≡ Some out → out.answer ≡ Some TmpGone → ⊥
