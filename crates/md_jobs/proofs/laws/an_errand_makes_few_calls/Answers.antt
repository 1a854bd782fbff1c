use Rattle.md_jobs.proofs.AllCalls.{errand-few}
use Rattle.md_jobs.proofs.laws.an_errand_makes_few_calls.Goals as goal

pub returns : goal.returns
returns c = errand-few
