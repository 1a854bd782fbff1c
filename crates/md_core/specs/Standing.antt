-- What contracts see of a job: its call, and how far it is.
use Rattle.std.specs.Prelude.{ℕ, ◌≡◌, List, Option, map}
use Rattle.md_jobs.specs.declared.call.Call.{Call}
use Rattle.md_jobs.specs.declared.effect.Effect.{Effect}
use Rattle.md_core.specs.declared.jobs.job.Progress.{Progress}
use Rattle.md_core.specs.declared.jobs.job.Progress.TheVariants.{Working, Answered}
use Rattle.md_jobs.specs.declared.step.Moment.{Moment}
use Rattle.md_jobs.specs.declared.step.StepOut.{StepOut}
use Rattle.md_core.specs.Tasks.Task.{Task}
use Rattle.md_core.specs.Tasks.Views.Tasks.{task_view}
use Rattle.md_dirs.specs.Calls.{Device}
use Rattle.md_jobs.specs.Turn.{Takes}
use Rattle.md_core.specs.Machine.{Standing, working, answered, new_job, turn_of, standing_of}

-- a job: its call, and how far it is
pub record JobView : Type 0 where
  pub call : Call
  pub standing : Standing

-- how far a job is, as the program holds it
abbrev pub standing_by : Progress → Standing
standing_by (Working task) = working (task_view task)
standing_by (Answered a) = answered a

-- how far jobs are
abbrev pub standings : List JobView → List Standing
standings jobs = map (λ job. job.standing) jobs

-- the job of a call, not begun
abbrev pub job_of : Call → JobView
job_of call = record { call = call; standing = new_job call }

-- a job that was at work took its turn
pub record TakesTurn (number : ℕ) (at : Moment) (job : JobView) (old : Device)
    (out : StepOut) (effect : Option Effect) (job' : JobView) (new : Device) : Type 0 where
  pub task : Task
  pub task' : Task
  pub was : job.standing ≡ working task
  pub takes : Takes (turn_of number task at) at old out effect task' new
  pub call : job'.call ≡ job.call
  pub standing : job'.standing ≡ standing_of task' out.answer
