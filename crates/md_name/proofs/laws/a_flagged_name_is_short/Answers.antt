use Rattle.md_name.proofs.Flagged.{length-flagged-le}
use Rattle.md_name.proofs.laws.a_flagged_name_is_short.Goals as goal

pub returns : goal.returns
returns c = length-flagged-le c.args.unique.now c.args.flags
