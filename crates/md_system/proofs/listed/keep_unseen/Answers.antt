use Rattle.std.proofs.Common.{rules, not}
use Rattle.std.proofs.lemmas.Fn.{filter_same}
use Rattle.md_name.specs.Names.{unique_of}
use Rattle.md_system.specs.Listings.{has_unique, names_of}
use Rattle.md_system.specs.declared.listed.Listed.{Listed}
use Rattle.md_system.proofs.listed.keep_unseen.Goals as goal

pub returns : goal.returns
returns c =
    filter_same _ (λ (m : Listed). not (has_unique (names_of c.args.others.now) (unique_of m.name))) _ (λ x b f' k. search rules) _ _ c.retain.ensures.filtered
