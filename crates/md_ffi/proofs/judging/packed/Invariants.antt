use Rattle.std.proofs.Common.{◌≡◌, take}
use Rattle.std.specs.List.{flat_map}
use Rattle.md_ffi.specs.Judging.{finding_bytes}
use Rattle.md_ffi.proofs.judging.packed.Given as goal

abbrev pub invariant-loop-finding : goal.invariant-loop-finding
invariant-loop-finding l = l.bytes.items ≡ flat_map finding_bytes (take l.finding-index l.findings)
