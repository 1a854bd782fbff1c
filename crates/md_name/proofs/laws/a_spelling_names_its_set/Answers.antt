use Rattle.md_name.proofs.Flagged.{list_all-spelling, from_list-spelling}
use Rattle.md_name.proofs.laws.a_spelling_names_its_set.Goals as goal

pub returns-clause-letters : goal.returns-clause-letters
returns-clause-letters c = list_all-spelling c.args.flags

pub returns-clause-same : goal.returns-clause-same
returns-clause-same c = from_list-spelling c.args.flags c.only_letters.ensures
