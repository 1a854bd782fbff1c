use Rattle.std.proofs.Common.{◌≡◌, ◌++◌, length}
use Rattle.md_command.specs.Escapes.{shown_behind}
use Rattle.md_command.proofs.escape.push_shown.Given as goal

-- what was appended, and what is still to be, is all
abbrev pub invariant-loop-byte : goal.invariant-loop-byte
invariant-loop-byte l = l.text.items ++ shown_behind l.are_text l.last l.rest ≡ l.fn.text.items ++ shown_behind l.are_text 0 l.words

-- each byte is passed once
abbrev pub decreases-loop-byte : goal.decreases-loop-byte
decreases-loop-byte l = length l.rest
