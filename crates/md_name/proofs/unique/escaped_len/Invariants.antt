use Rattle.std.proofs.Common.{◌≡◌, ◌≤◌, ◌*◌, length, take}
use Rattle.md_name.specs.Made.{escaped}
use Rattle.md_name.proofs.unique.escaped_len.Given as goal

abbrev pub invariant-loop-byte : goal.invariant-loop-byte
invariant-loop-byte l = record {
  so_far : l.len ≡ length (escaped (take l.byte-index l.host));
  small : l.len ≤ 4 * l.byte-index;
}
