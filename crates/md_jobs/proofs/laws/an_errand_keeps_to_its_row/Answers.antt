use Rattle.md_jobs.proofs.Replies.{errand-at}
use Rattle.md_jobs.proofs.laws.an_errand_keeps_to_its_row.Goals as goal

pub returns : goal.returns
returns c = λ job e. errand-at job e
