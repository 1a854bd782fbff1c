use Rattle.std.proofs.Common.{◌≡◌, ◌++◌, take}
use Rattle.md_name.specs.Made.{escaped}
use Rattle.md_name.proofs.unique.push_escaped.Given as goal

abbrev pub invariant-loop-byte : goal.invariant-loop-byte
invariant-loop-byte l = l.text.items ≡ l.fn.text.items ++ escaped (take l.byte-index l.host)
