use Rattle.std.proofs.Common.{rules}
use Rattle.std.proofs.lemmas.Fn.{always_returns_same}
use Rattle.md_core.specs.Mailbox.{name_cmp}
use Rattle.md_listing.specs.declared.entry.Entry.{Entry}
use Rattle.md_view.proofs.Held.Placing.{searched}
use Rattle.md_view.proofs.names.list.search.Goals as goal

pub returns : goal.returns
returns c =
    let facts = c.binary_search_by.ensures in
    let by_name = facts.position (λ (e : Entry). name_cmp e.unique c.args.unique.now) (always_returns_same _ _ _ (λ a r f' k. search rules)) in
    searched c.args.unique.now c.args.entries.now c.requires _ facts.bound by_name
