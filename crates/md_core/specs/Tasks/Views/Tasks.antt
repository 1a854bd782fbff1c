-- What the definitions see of the code's tasks.
use Rattle.md_core.specs.Tasks.Task as task
use Rattle.md_jobs.specs.Tasks.Views.Errands.{errand_view}
use Rattle.md_core.specs.declared.jobs.task.Task.{Task}
use Rattle.md_core.specs.declared.jobs.task.Task.TheVariants as task_of

-- a task, as the definitions see it
abbrev pub task_view : Task → task.Task
task_view (task_of.Deliver d) = task.Deliver d
task_view (task_of.Errand e) = task.Errand (errand_view e)
task_view (task_of.Clean c) = task.Clean c
