use Rattle.md_jobs.proofs.Cleans.{clean-keeps}
use Rattle.md_jobs.proofs.laws.a_clean_keeps_to_tmp.Goals as goal

pub returns : goal.returns
returns c = clean-keeps
