use Rattle.md_jobs.proofs.Replies.{errand-read}
use Rattle.md_jobs.proofs.laws.an_errand_acts_on_what_it_read.Goals as goal

pub returns : goal.returns
returns c = λ job e reply rows. errand-read job e reply rows
