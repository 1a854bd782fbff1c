-- The parts of a text on both sides of the first such byte.
use Rattle.std.proofs.Common.{◌≡◌, ℕ, ◌+◌, ◌-◌, List, length, take, drop, true, false, None, Some, refl, arith}
use Rattle.std.proofs.lemmas.List.{take_rest}
use Rattle.std.proofs.lemmas.List.Elements.{All-get_or}
use Rattle.std.proofs.lemmas.List.Sums.{position_or_len_is}
use Rattle.std.proofs.lemmas.List.Folds.{list_any_none, list_any_at}
use Rattle.std.proofs.Math.Seq.{take-length}
use Rattle.std.specs.List.{All, before_first, position_or_len, list_any}
use Rattle.memchr.specs.Find.{Nowhere, NoneBefore, Passes, is_byte}
use Rattle.md_text.specs.Words.{cut_at}
use Rattle.md_text.proofs.Firsts.{absent, first_at}

module _ (b : ℕ) (text : List ℕ) where
  whole : All (λ x. is_byte b x ≡ false) text → before_first (is_byte b) text ≡ text
  whole all =
      let is : position_or_len (is_byte b) text ≡ length text =
      position_or_len_is (is_byte b) text (length text) 0 (omega arith) (λ k h. All-get_or (λ x. is_byte b x ≡ false) text k 0 h all)
      (λ h. absurd (omega arith)) in
      rw (is, take-length) refl

  pub cut_nowhere : Nowhere (Passes (is_byte b) text) 0 (length text) → cut_at b text ≡ (text, None)
  unfolding cut_at
  cut_nowhere none =
      let all : All (λ x. is_byte b x ≡ false) text = absent b text none in
      rw (list_any_none (is_byte b) text all, whole all) refl

  pub cut_first : (at : ℕ) → NoneBefore (Passes (is_byte b) text) 0 (length text) at × Passes (is_byte b) text at
      → cut_at b text ≡ (take at text, Some (take (length text - (at + 1)) (drop (at + 1) text)))
  unfolding cut_at
  cut_first at found =
      let is : position_or_len (is_byte b) text ≡ at = first_at b text at found in
      let some : list_any (is_byte b) text ≡ true = list_any_at (is_byte b) text at 0 found.0.high found.1 in
      rw (take_rest text (at + 1), some, is) refl
