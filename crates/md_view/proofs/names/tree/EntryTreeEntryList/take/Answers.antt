use Rattle.std.proofs.Common.{List, None, sym, subst}
use Rattle.md_listing.specs.declared.entry.Entry.{Entry}
use Rattle.md_listing.specs.Readings.{IsInOrder}
use Rattle.md_view.specs.Held.{DiffersAt, entries_in}
use Rattle.md_view.proofs.Held.Trees.{removed}
use Rattle.md_view.proofs.names.tree.EntryTreeEntryList.take.Goals as goal

pub returns : goal.returns
returns c =
    let old = c.self.inside.leaves.entries in
    let new = c.remove-gone.new.self.entries in
    let u = c.args.unique.now in
    subst (λ (es : List Entry). DiffersAt u None es (entries_in new)) c.self.view_is
    (removed u old new (subst IsInOrder (sym c.self.view_is) c.requires) c.remove-gone.ensures.entries)
