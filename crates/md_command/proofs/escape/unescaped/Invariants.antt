use Rattle.std.proofs.Common.{◌≡◌, length}
use Rattle.md_command.specs.Unescaping.{onto, unescaped}
use Rattle.md_command.proofs.escape.unescaped.Given as goal

-- what was read, and what is still to be read, is what the column shows
abbrev pub invariant-loop-byte : goal.invariant-loop-byte
invariant-loop-byte l = onto l.bytes.items (unescaped l.rest) ≡ unescaped l.column

-- each byte is passed once
abbrev pub decreases-loop-byte : goal.decreases-loop-byte
decreases-loop-byte l = length l.rest
