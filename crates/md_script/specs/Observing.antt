-- What an observer of a script's lines is shown.
use Rattle.std.specs.Prelude.{◌≡◌, ℕ, List, None, Some, Ok}
use Rattle.md_dirs.specs.declared.image.ImageFile.{ImageFile}
use Rattle.md_jobs.specs.declared.step.Event.{Event}
use Rattle.md_jobs.specs.declared.step.StepOut.{StepOut}
use Rattle.md_core.specs.Runs.{Run, and_event}
use Rattle.md_script.specs.Sessions.{without_fault, event_refusal, shown_step, run_over}

-- the store was just opened over these folders and files
pub record IsOpened (r : Run) : Type 0 where
  pub folders : ℕ
  pub files : List ImageFile
  pub over : run_over folders files ≡ Ok r

-- The step of an event was taken, and this is what it shows: the directory call, the reply, the answer, and whether it is the job's effect.
pub record IsTaken (before after : Run) (event : Event) (out : StepOut) : Type 0 where
  pub goes_on : event_refusal before event ≡ None
  pub after_is : after ≡ and_event before (without_fault event)
  pub shown : shown_step before event ≡ Some out
