use Rattle.md_name.proofs.Flagged.{split_of-flagged, IsUniquePart-maildir}
use Rattle.md_name.proofs.laws.a_flagged_name_has_its_parts.Goals as goal

pub returns : goal.returns
returns c = split_of-flagged c.args.unique.now c.args.flags (IsUniquePart-maildir c.args.unique.now c.requires) c.only_letters.ensures
