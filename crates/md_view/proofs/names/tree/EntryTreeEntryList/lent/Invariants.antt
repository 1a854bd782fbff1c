use Rattle.std.proofs.Common.{◌≡◌, ◌++◌}
use Rattle.md_view.specs.Held.{entries_in}
use Rattle.md_view.proofs.names.tree.EntryTreeEntryList.lent.Given as goal

-- what was lent, and what is left
abbrev pub invariant-loop-unique : goal.invariant-loop-unique
invariant-loop-unique l = l.all.items ++ entries_in l.unique-iterator ≡ l.self
