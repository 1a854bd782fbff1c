use Rattle.md_beside.proofs.Relying.{rely}
use Rattle.md_beside.proofs.laws.jobs_rely_on_their_clauses.Goals as goal

pub returns : goal.returns
returns c = rely
