use Rattle.md_jobs.proofs.Cleans.{cleans}
use Rattle.md_jobs.proofs.laws.a_clean_makes_few_calls.Goals as goal

pub returns : goal.returns
returns c = λ folder listing heard. (cleans folder listing heard).few
