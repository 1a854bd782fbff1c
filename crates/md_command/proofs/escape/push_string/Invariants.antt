use Rattle.std.proofs.Common.{◌≡◌, ◌++◌, take}
use Rattle.std.specs.List.{flat_map}
use Rattle.md_command.specs.Escapes.{json_escape}
use Rattle.md_command.proofs.escape.push_string.Given as goal

abbrev pub invariant-loop-byte : goal.invariant-loop-byte
invariant-loop-byte l = l.text.items ≡ l.initial.text.items ++ flat_map (json_escape l.are_text) (take l.byte-index l.bytes)
