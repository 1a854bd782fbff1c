-- The first byte that ends a line, from a search's words to those of lists.
use Rattle.std.proofs.Common.{◌≡◌, ◌∙◌, sym, ap, ℕ, ◌+◌, true, false, List, length, take, arith}
use Rattle.std.specs.Prelude.{nat_lt}
use Rattle.std.proofs.lemmas.Bool.{false_from_ne_true}
use Rattle.std.proofs.lemmas.Bool.Decides.{nat_tests}
use Rattle.std.proofs.lemmas.List.{take_all}
use Rattle.std.proofs.lemmas.List.Sums.{position_or_len_is}
use Rattle.memchr.specs.Find.{NoneBefore, Nowhere, Passes, is_byte}
use Rattle.md_command.specs.Cuts.{end_of, cut}

module _ (end : ℕ) (bytes : List ℕ) where
  cut_at : (at : ℕ) → end_of end bytes ≡ at → cut end bytes ≡ (take (at + 1) bytes, nat_lt at (length bytes))
  cut_at at is = ap (λ n. (take (n + 1) bytes, nat_lt n (length bytes))) is

  -- no byte ends a line
  pub cut_nowhere : Nowhere (Passes (is_byte end) bytes) 0 (length bytes) → (bytes, false) ≡ cut end bytes
  cut_nowhere none =
      let is : end_of end bytes ≡ length bytes =
      position_or_len_is (is_byte end) bytes (length bytes) 0 (omega arith) (λ k h. false_from_ne_true _ (none k (omega arith) h))
      (λ h. absurd (omega arith)) in
      let whole : take (length bytes + 1) bytes ≡ bytes = take_all (length bytes + 1) bytes (omega arith) in
      let past : nat_lt (length bytes) (length bytes) ≡ false = grind (arith, nat_tests) in
      sym (cut_at (length bytes) is ∙ ap (λ front. (front, nat_lt (length bytes) (length bytes))) whole ∙ ap (λ test. (bytes, test)) past)

  -- the byte at this place is the first that ends a line
  pub cut_first : (at : ℕ) → NoneBefore (Passes (is_byte end) bytes) 0 (length bytes) at × Passes (is_byte end) bytes at
      → (take (at + 1) bytes, true) ≡ cut end bytes
  cut_first at found =
      let is : end_of end bytes ≡ at =
      position_or_len_is (is_byte end) bytes at 0 (omega (arith, found.0.high))
      (λ k h. false_from_ne_true _ (found.0.before k (omega arith) h)) (λ h. found.1) in
      let inside : nat_lt at (length bytes) ≡ true = grind (arith, nat_tests, found.0.high) in
      sym (cut_at at is ∙ ap (λ test. (take (at + 1) bytes, test)) inside)
