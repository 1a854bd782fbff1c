use Rattle.md_head.proofs.Appended.{body_not_read}
use Rattle.md_head.proofs.laws.body_is_not_read.Goals as goal

pub returns : goal.returns
returns c = body_not_read
