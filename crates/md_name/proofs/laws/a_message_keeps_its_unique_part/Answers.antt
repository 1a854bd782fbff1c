use Rattle.md_name.specs.Names.{unique_of}
use Rattle.md_name.proofs.Flagged.{split_of-flagged, IsUniquePart-unique_of}
use Rattle.md_name.proofs.laws.a_message_keeps_its_unique_part.Goals as goal

pub returns : goal.returns
returns c = split_of-flagged (unique_of c.args.name.now) c.args.flags (IsUniquePart-unique_of c.args.name.now c.requires) c.only_letters.ensures
