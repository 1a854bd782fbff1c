use Rattle.md_beside.proofs.RunStories.{are-lawful}
use Rattle.md_beside.proofs.laws.jobs_are_lawful.Goals as goal

pub returns : goal.returns
returns c = λ r actor run names k job x call b. are-lawful r actor run names k job x call b
