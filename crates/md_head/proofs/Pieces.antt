-- The characters that bytes begin with: a byte of 128 or more begins none that is white space, and ends with none that is.
use Rattle.std.proofs.Common.{◌≡◌, ℕ, zero, suc, ◌-◌, ◌<◌, ◌≤◌, Bool, true, false, List, [], ◌∷◌, length, get_or, refl, sym, ap, ◌∙◌, arith, cond}
use Rattle.std.proofs.lemmas.Bool.Decides.{nat_tests}
use Rattle.std.specs.Prelude.{◌==◌, nat_lt}
use Rattle.bstr.specs.Utf8.{Decoded, decoded, decoded_by, good, bad, or_replacement, second, continues, code_of_2, code_of_3, code_of_4}
use Rattle.bstr.proofs.lemmas.PieceLemmas.{piece-bounds}
use Rattle.md_head.specs.Header.{is_blank}

pub ascii : (n b c d e : ℕ) → 0 < n → b < 128 → decoded_by n b c d e ≡ good b 1
ascii n b c d e h l = grind (arith, nat_tests)

pub high_byte : (b : ℕ) → 128 ≤ b → is_blank b ≡ false
high_byte b h = grind (arith, nat_tests)

two : (b c : ℕ) → 194 ≤ b → is_blank (code_of_2 b c) ≡ false
two b c h = grind (arith, nat_tests)

three : (b c d : ℕ) → 224 ≤ b → second b c ≡ true → is_blank (code_of_3 b c d) ≡ false
three b c d h s = grind (arith, nat_tests)

four : (b c d e : ℕ) → 240 ≤ b → second b c ≡ true → is_blank (code_of_4 b c d e) ≡ false
four b c d e h s = grind (arith, nat_tests)

second_high : (b c : ℕ) → second b c ≡ true → 128 ≤ c
second_high b c s = grind (arith, nat_tests)

continues_high : (c : ℕ) → continues c ≡ true → 128 ≤ c
continues_high c s = grind (arith, nat_tests)

at_least : (k b : ℕ) → nat_lt b k ≡ false → k ≤ b
at_least k b h = grind (arith, nat_tests)

below : (k b : ℕ) → nat_lt b k ≡ true → k ≤ b → ⊥
below k b h g = grind (arith, nat_tests)

some : (n : ℕ) → (n == 0) ≡ true → 0 < n → ⊥
some n h g = grind (arith, nat_tests)

-- a character of the bytes b c d e, and the last byte that it takes
abbrev IsHigh : ℕ → ℕ → ℕ → ℕ → Decoded → Type 0
IsHigh b c d e p = (is_blank (or_replacement p.char) ≡ false) × (is_blank (get_or (b ∷ c ∷ d ∷ e ∷ []) (p.size - 1) 0) ≡ false)

-- a test's two sides
side : (P : Decoded → Type 0) (t : Bool) (x y : Decoded) → (t ≡ true → P x) → (t ≡ false → P y) → P (cond t x y)
side P true x y h g = h refl
side P false x y h g = g refl

high : (n b c d e : ℕ) → 0 < n → 128 ≤ b → IsHigh b c d e (decoded_by n b c d e)
high n b c d e h g =
    let P : Decoded → Type 0 = IsHigh b c d e in
    let one = high_byte b g in
    side P (n == 0) _ _ (λ q. absurd (some n q h)) (λ _.
    side P (nat_lt b 0x80) _ _ (λ q. absurd (below 128 b q g)) (λ _.
    side P (nat_lt b 0xC2) (bad 1) _ (λ _. (refl, one)) (λ l.
    side P (nat_lt 0xF4 b) (bad 1) _ (λ _. (refl, one)) (λ _.
    side P (nat_lt n 2) (bad 1) _ (λ _. (refl, one)) (λ _.
    side P (second b c) _ (bad 1) (λ s.
    let last_two = high_byte c (second_high b c s) in
    side P (nat_lt b 0xE0) _ _ (λ _. (two b c (at_least 194 b l), last_two)) (λ m.
    side P (nat_lt n 3) (bad 2) _ (λ _. (refl, last_two)) (λ _.
    side P (continues d) _ (bad 2) (λ third.
    let last_three = high_byte d (continues_high d third) in
    side P (nat_lt b 0xF0) _ _ (λ _. (three b c d (at_least 224 b m) s, last_three)) (λ o.
    side P (nat_lt n 4) (bad 3) _ (λ _. (refl, last_three)) (λ _.
    side P (continues e) _ (bad 3) (λ fourth. (four b c d e (at_least 240 b o) s, high_byte e (continues_high e fourth))) (λ _. (refl, last_three)))))
    (λ _. (refl, last_two)))))
    (λ _. (refl, one)))))))

among : (bytes : List ℕ) (k : ℕ) → k < 4 → get_or (get_or bytes 0 0 ∷ get_or bytes 1 0 ∷ get_or bytes 2 0 ∷ get_or bytes 3 0 ∷ []) k 0 ≡ get_or bytes k 0
among bytes zero h = refl
among bytes (suc zero) h = refl
among bytes (suc (suc zero)) h = refl
among bytes (suc (suc (suc zero))) h = refl
among bytes (suc (suc (suc (suc k)))) h = absurd (omega arith)

-- the first character of bytes that begin with a byte of 128 or more
pub record HighPiece (bytes : List ℕ) : Type 0 where
  pub other : is_blank (or_replacement (decoded bytes).char) ≡ false
  pub some_bytes : 1 ≤ (decoded bytes).size
  pub within : (decoded bytes).size ≤ length bytes
  pub last : is_blank (get_or bytes ((decoded bytes).size - 1) 0) ≡ false

pub high_piece : (bytes : List ℕ) → 0 < length bytes → 128 ≤ get_or bytes 0 0 → HighPiece bytes
high_piece bytes h g =
    let both = high (length bytes) (get_or bytes 0 0) (get_or bytes 1 0) (get_or bytes 2 0) (get_or bytes 3 0) h g in
    let bounds = piece-bounds bytes h in
    record {
      other = both.0;
      some_bytes = bounds.0;
      within = bounds.2;
      last = sym (ap is_blank (among bytes ((decoded bytes).size - 1) (omega arith))) ∙ both.1;
    }
