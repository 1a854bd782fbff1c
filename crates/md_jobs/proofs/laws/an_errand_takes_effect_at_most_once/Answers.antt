use Rattle.md_jobs.proofs.AllCalls.{errand-once}
use Rattle.md_jobs.proofs.laws.an_errand_takes_effect_at_most_once.Goals as goal

pub returns : goal.returns
returns c = errand-once
