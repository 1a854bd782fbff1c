use Rattle.std.proofs.Common.{ℕ, List, rules}
use Rattle.std.proofs.lemmas.Fn.{always_returns_same}
use Rattle.md_name.specs.Names.{unique_of}
use Rattle.md_dirs.specs.Index.{name_cmp}
use Rattle.md_system.proofs.Searched.{searched}
use Rattle.md_system.proofs.shown.search.Goals as goal

pub returns : goal.returns
returns c =
    let facts = c.binary_search_by.ensures in
    let by_name = facts.position (λ (name : List ℕ). name_cmp (unique_of name) c.args.unique.now)
    (always_returns_same _ _ _ (λ a r f' k. search rules)) in
    searched c.args.unique.now c.args.names.now c.requires _ facts.bound by_name
