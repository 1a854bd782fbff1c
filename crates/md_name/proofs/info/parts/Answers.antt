use Rattle.md_name.proofs.Colons.{unique_of-found, info_of-found, unique_of-not_found, info_of-not_found}
use Rattle.std.proofs.Common.{sym, ap, ◌∙◌, ◌+◌, Some}
use Rattle.std.proofs.lemmas.List.{take_rest}
use Rattle.md_name.specs.Names.{info_by}
use Rattle.md_name.proofs.info.parts.Goals as goal

pub returns-in-Some-clause-unique : goal.returns-in-Some-clause-unique
returns-in-Some-clause-unique c = unique_of-found c.args.name.now c.in-Some.at (sym c.first_colon.ensures.found ∙ c.in-Some.is)

pub returns-in-Some-clause-info : goal.returns-in-Some-clause-info
returns-in-Some-clause-info c = c.read_info.ensures ∙ ap (λ t. info_by (Some t)) (take_rest c.args.name.now (c.in-Some.at + 1)) ∙
    info_of-found c.args.name.now c.in-Some.at (sym c.first_colon.ensures.found ∙ c.in-Some.is)

pub returns-in-None-clause-unique : goal.returns-in-None-clause-unique
returns-in-None-clause-unique c = unique_of-not_found c.args.name.now (sym c.first_colon.ensures.found ∙ c.in-None.is)

pub returns-in-None-clause-info : goal.returns-in-None-clause-info
returns-in-None-clause-info c = info_of-not_found c.args.name.now (sym c.first_colon.ensures.found ∙ c.in-None.is)
