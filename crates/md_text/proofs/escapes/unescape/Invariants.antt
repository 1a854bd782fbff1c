use Rattle.std.proofs.Common.{◌≡◌, ◌≤◌, ◌+◌, length, vec_len, vec_capacity}
use Rattle.memchr.specs.Find.{IsFirstByte, is_byte}
use Rattle.md_text.specs.Escapes.{onto, unescaped}
use Rattle.md_text.proofs.escapes.unescape.Given as goal

abbrev pub invariant-loop-next : goal.invariant-loop-next
invariant-loop-next l =
    (onto l.bytes.items (unescaped l.spaces l.left) ≡ unescaped l.spaces l.fn.text) × (vec_len l.bytes + length l.left ≤ vec_capacity l.bytes)
    × IsFirstByte (is_byte 92) l.left l.next

abbrev pub decreases-loop-next : goal.decreases-loop-next
decreases-loop-next l = length l.left
