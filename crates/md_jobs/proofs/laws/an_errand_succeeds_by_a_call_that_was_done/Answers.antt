use Rattle.md_jobs.proofs.Replies.{errand-done}
use Rattle.md_jobs.proofs.laws.an_errand_succeeds_by_a_call_that_was_done.Goals as goal

pub returns : goal.returns
returns c = λ job e reply rows. errand-done job e reply rows
