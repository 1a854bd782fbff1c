use Rattle.md_head.proofs.Renamed.{renamed}
use Rattle.md_head.proofs.laws.name_case_does_not_matter.Goals as goal

pub returns : goal.returns
returns c = renamed
