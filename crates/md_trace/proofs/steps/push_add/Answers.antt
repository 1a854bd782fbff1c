use Rattle.md_trace.proofs.Grown.{also}
use Rattle.md_trace.proofs.steps.push_add.Goals as goal

pub returns : goal.returns
returns c = also (also c.push_at.ensures c.push.ensures) c.push_number.ensures
