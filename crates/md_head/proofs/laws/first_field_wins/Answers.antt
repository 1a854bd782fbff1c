use Rattle.md_head.proofs.Earlier.{values_kept}
use Rattle.md_head.proofs.laws.first_field_wins.Goals as goal

pub returns : goal.returns
returns c = values_kept
