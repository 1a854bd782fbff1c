use Rattle.md_jobs.proofs.Turns.{effect-last}
use Rattle.md_jobs.proofs.laws.an_errand_ends_by_its_effect.Goals as goal

pub returns : goal.returns
returns c = λ job e reply rows. effect-last job e reply rows
