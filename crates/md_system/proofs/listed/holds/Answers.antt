use Rattle.std.proofs.Common.{◌∙◌, ap, rules}
use Rattle.std.proofs.lemmas.Fn.{always_returns_same}
use Rattle.md_name.specs.Names.{unique_of}
use Rattle.md_dirs.specs.Index.{name_cmp}
use Rattle.md_system.specs.Listings.{has_unique, names_of}
use Rattle.md_system.specs.declared.listed.Listed.{Listed}
use Rattle.md_system.proofs.Joining.{held}
use Rattle.md_system.proofs.listed.holds.Goals as goal

pub returns : goal.returns
returns c =
    let facts = c.binary_search_by.ensures in
    let unique = c.unique_part-unique.result.now in
    let by_name = facts.position (λ (m : Listed). name_cmp (unique_of m.name) unique) (always_returns_same _ _ _ (λ a r f' k. search rules)) in
    c.is_ok.ensures.value ∙ held unique c.args.listed.now c.requires _ facts.bound by_name
    ∙ ap (has_unique (names_of c.args.listed.now)) c.unique_part-unique.ensures
