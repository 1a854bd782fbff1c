use Rattle.md_name.proofs.Flagged.{split_of-bare, IsUniquePart-maildir}
use Rattle.md_name.proofs.laws.a_unique_name_is_bare.Goals as goal

pub returns : goal.returns
returns c = split_of-bare c.args.unique.now (IsUniquePart-maildir c.args.unique.now c.requires)
