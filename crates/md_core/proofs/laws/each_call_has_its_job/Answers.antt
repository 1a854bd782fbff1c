use Rattle.md_core.proofs.Runs.ByEvent.{length-jobs_of}
use Rattle.md_core.proofs.laws.each_call_has_its_job.Goals as goal

pub returns : goal.returns
returns c = λ r run. length-jobs_of r run
