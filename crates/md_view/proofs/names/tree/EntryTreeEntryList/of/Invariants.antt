use Rattle.std.proofs.Common.{ℕ, ◌≡◌, ◌++◌, List, length}
use Rattle.md_listing.specs.declared.entry.Entry.{Entry}
use Rattle.md_listing.specs.Readings.{IsInOrder}
use Rattle.md_view.specs.Held.{entry_with}
use Rattle.md_view.proofs.names.tree.EntryTreeEntryList.of.Given as goal

-- the entries from some on are in the tree
abbrev pub invariant-loop-entry : goal.invariant-loop-entry
invariant-loop-entry l = record {
  order : IsInOrder l.tree;
  split : (done : List Entry) × (l.fn.all.items ≡ l.all.items ++ done) × ((u : List ℕ) → entry_with u l.tree ≡ entry_with u done);
}

abbrev pub decreases-loop-entry : goal.decreases-loop-entry
decreases-loop-entry l = length l.all.items
