use Rattle.std.proofs.Common.{◌≡◌, All, length, take}
use Rattle.std.specs.List.{flat_map}
use Rattle.md_ffi.specs.Reading.{entry_bytes, HasShortName}
use Rattle.md_ffi.proofs.reading.listing_length.Given as goal

abbrev pub invariant-loop-entry : goal.invariant-loop-entry
invariant-loop-entry l = (l.whole ≡ length (flat_map entry_bytes (take l.entry-index l.entries))) × All HasShortName (take l.entry-index l.entries)
