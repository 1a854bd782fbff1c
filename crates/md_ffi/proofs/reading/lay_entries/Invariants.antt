use Rattle.std.proofs.Common.{◌≡◌, length, take, drop}
use Rattle.std.specs.List.{flat_map}
use Rattle.md_ffi.specs.Reading.{entry_bytes}
use Rattle.md_ffi.proofs.reading.lay_entries.Given as goal

abbrev pub invariant-loop-entry : goal.invariant-loop-entry
invariant-loop-entry l = record {
  so_far : l.at ≡ length (flat_map entry_bytes (take l.entry-index l.entries));
  front : take l.at l.out ≡ flat_map entry_bytes (take l.entry-index l.entries);
  rest : drop l.at l.out ≡ drop l.at l.fn.out;
}
