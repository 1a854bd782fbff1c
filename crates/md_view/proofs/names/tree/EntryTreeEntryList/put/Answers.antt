use Rattle.std.proofs.Common.{List, Some, sym, subst, ◌∙◌}
use Rattle.md_listing.specs.declared.entry.Entry.{Entry}
use Rattle.md_listing.specs.Readings.{IsInOrder}
use Rattle.md_view.specs.Held.{DiffersAt, named, entries_in}
use Rattle.md_view.proofs.Held.Trees.{inserted}
use Rattle.md_view.proofs.names.tree.EntryTreeEntryList.put.Goals as goal

pub returns-clause-ok : goal.returns-clause-ok
returns-clause-ok c =
    let old = c.self.inside.leaves.entries in
    let new = c.insert.new.self.entries in
    let leaf = c.in_ok-leaf.leaf in
    let e = c.args.entry in
    let shows : DiffersAt c.into_vec.result.items (Some (named c.into_vec.result.items leaf)) (entries_in old) (entries_in new) =
    inserted c.into_vec.result leaf old new (subst IsInOrder (sym c.self.view_is) c.requires) c.in_ok-insert.ensures.entries in
    let one : DiffersAt e.unique (Some (named e.unique leaf)) (entries_in old) (entries_in new) =
    subst (λ u. DiffersAt u (Some (named u leaf)) (entries_in old) (entries_in new)) (c.into_vec.ensures ∙ c.in_ok-unique.ensures ∙ c.unique.ensures) shows in
    subst (λ (es : List Entry). DiffersAt e.unique (Some e) es (entries_in new)) c.self.view_is
    (subst (λ (x : Entry). DiffersAt e.unique (Some x) (entries_in old) (entries_in new)) c.in_ok-leaf.ensures one)
