use Rattle.md_name.proofs.Colons.{unique_of-found, unique_of-not_found}
use Rattle.std.proofs.Common.{sym, ◌∙◌}
use Rattle.md_name.proofs.info.unique_part.Goals as goal

pub returns-in-Some : goal.returns-in-Some
returns-in-Some c = unique_of-found c.args.name.now c.in-Some.at (sym c.first_colon.ensures.found ∙ c.in-Some.is)

pub returns-in-None : goal.returns-in-None
returns-in-None c = unique_of-not_found c.args.name.now (sym c.first_colon.ensures.found ∙ c.in-None.is)
