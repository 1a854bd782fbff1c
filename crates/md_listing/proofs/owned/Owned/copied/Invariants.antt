use Rattle.std.proofs.Common.{◌≡◌, All, map, take}
use Rattle.md_listing.specs.Rows.{entry_of, IsWithin}
use Rattle.md_listing.proofs.owned.Owned.copied.Given as goal

abbrev pub invariant-loop-entry : goal.invariant-loop-entry
invariant-loop-entry l = All (IsWithin l.text.items) l.pieces.items × (map (entry_of l.text.items) l.pieces.items ≡ take l.entry-index l.entries)
