use Rattle.md_jobs.proofs.Cleans.{cleans}
use Rattle.md_jobs.proofs.laws.a_clean_takes_away_what_it_saw_to_be_old.Goals as goal

pub returns : goal.returns
returns c = λ folder listing heard. (cleans folder listing heard).old
