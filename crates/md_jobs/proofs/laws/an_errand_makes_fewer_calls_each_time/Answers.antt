use Rattle.md_jobs.proofs.Replies.{errand-fewer}
use Rattle.md_jobs.proofs.laws.an_errand_makes_fewer_calls_each_time.Goals as goal

pub returns : goal.returns
returns c = λ job e reply rows. errand-fewer job e reply rows
