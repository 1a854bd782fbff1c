use Rattle.md_name.proofs.Flagged.{spelling_tells}
use Rattle.md_name.proofs.laws.spellings_tell_sets_apart.Goals as goal

pub returns : goal.returns
returns c = spelling_tells c.args.first c.args.second c.only_letters.ensures c.only_letters-2.ensures c.requires
