-- What the definitions see of the progress of a driven job.
use Rattle.md_core.specs.Machine.{Standing, working, answered}
use Rattle.md_core.specs.Tasks.Views.Tasks.{task_view}
use Rattle.md_driven.specs.declared.driven.Progress.{Progress}
use Rattle.md_driven.specs.declared.driven.Progress.TheVariants.{Working, Answered}

-- how far a job is, as the program holds it
abbrev pub standing_by : Progress → Standing
standing_by (Working task) = working (task_view task)
standing_by (Answered a) = answered a
