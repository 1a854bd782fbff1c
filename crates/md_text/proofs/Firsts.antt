-- The first place of a byte, from a search's words to those of lists.
use Rattle.std.proofs.Common.{◌≡◌, ℕ, List, length, false, arith}
use Rattle.std.specs.List.{All, position_or_len}
use Rattle.std.proofs.lemmas.List.Elements.{All-from_get_or}
use Rattle.std.proofs.lemmas.List.Sums.{position_or_len_is}
use Rattle.memchr.specs.Find.{Nowhere, NoneBefore, Passes, is_byte}
use Rattle.std.proofs.lemmas.Bool.{false_from_ne_true as refuted}

pub absent : (b : ℕ) (text : List ℕ) → Nowhere (Passes (is_byte b) text) 0 (length text) → All (λ x. is_byte b x ≡ false) text
absent b text none = All-from_get_or (λ x. is_byte b x ≡ false) text 0 (λ i h. refuted _ (none i (omega arith) h))

pub first_at : (b : ℕ) (text : List ℕ) (at : ℕ) → NoneBefore (Passes (is_byte b) text) 0 (length text) at × Passes (is_byte b) text at
    → position_or_len (is_byte b) text ≡ at
first_at b text at found =
    position_or_len_is (is_byte b) text at 0 (omega (arith, found.0.high)) (λ k h. refuted _ (found.0.before k (omega arith) h)) (λ h. found.1)
