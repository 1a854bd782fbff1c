use Rattle.std.proofs.Common.{◌≡◌, length}
use Rattle.md_command.specs.Escapes.{has_controls}
use Rattle.md_command.proofs.escape.has_controls.Given as goal

-- none was found so far
abbrev pub invariant-loop-byte : goal.invariant-loop-byte
invariant-loop-byte l = has_controls 0 l.bytes ≡ has_controls l.last l.rest

-- each byte is passed once
abbrev pub decreases-loop-byte : goal.decreases-loop-byte
decreases-loop-byte l = length l.rest
