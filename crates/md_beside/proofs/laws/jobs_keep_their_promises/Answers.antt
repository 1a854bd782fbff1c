use Rattle.md_beside.proofs.Jobs.{keep-promises}
use Rattle.md_beside.proofs.laws.jobs_keep_their_promises.Goals as goal

pub returns : goal.returns
returns c = keep-promises
