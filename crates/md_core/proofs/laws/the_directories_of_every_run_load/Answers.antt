use Rattle.md_core.proofs.Settling.EachRun.{run-loads}
use Rattle.md_core.proofs.laws.the_directories_of_every_run_load.Goals as goal

pub returns : goal.returns
returns c = run-loads
