-- The word of a set gives the set back, and the set of a word gives the word: what the type of flags must show of how it is kept.
-- No definition rests on it.
use Rattle.std.proofs.Common.{◌≡◌, ℕ, zero, suc, ◌+◌, ◌*◌, ◌/◌, ◌%◌, ◌^◌, ◌<◌, Bool, true, ◌&&◌}
use Rattle.std.proofs.Common.{◌||◌, List, [], ◌∷◌, ◌++◌, refl, sym, ap, ◌∙◌, arith, cond, pow-suc}
use Rattle.std.specs.Prelude.{◌==◌, nat_eq, nat_le, nat_lt}
use Rattle.std.proofs.lemmas.Bool.Decides.{nat_tests}
use Rattle.std.proofs.lemmas.Nat.Bits.{bit_at_lowest, bit_at-suc, bit_at-lt}
use Rattle.std.proofs.lemmas.List.Folds.{list_any-append}
use Rattle.std.specs.Int.{bit_at}
use Rattle.std.specs.List.{list_any}
use Rattle.std.specs.Ordering.{nat_cmp}
use Rattle.std.specs.FinSet as set
use Rattle.md_name.specs.declared.flags.Flags.TheInside.{Inside}
use Rattle.md_name.specs.Letters.{is_letter, letters, Set}
use Rattle.md_name.specs.Words.{place_of, letter_at, letters_in, word_by, word_of}

-- ---- which letters there are

-- n numbers in a row
run : ℕ → ℕ → List ℕ
run first zero = []
run first (suc n) = first ∷ run (suc first) n

one_of_run : (first n c : ℕ) → list_any (λ y. nat_eq y c) (run first n) ≡ (nat_le first c && nat_lt c (first + n))
unfolding run
one_of_run first zero c = grind (arith, nat_tests)
one_of_run first (suc n) c = ap (λ b. nat_eq first c || b) (one_of_run (suc first) n c) ∙ grind (arith, nat_tests)

two_runs : letters ≡ run 65 26 ++ run 97 26
unfolding letters run
two_runs = refl

either_run : (c : ℕ) → ((nat_le 65 c && nat_lt c (65 + 26)) || (nat_le 97 c && nat_lt c (97 + 26))) ≡ is_letter c
either_run c = grind (arith, nat_tests)

pub list_any-letters : (c : ℕ) → list_any (λ y. nat_eq y c) letters ≡ is_letter c
list_any-letters c =
    ap (list_any (λ y. nat_eq y c)) two_runs ∙ list_any-append (λ y. nat_eq y c) (run 65 26) (run 97 26)
    ∙ (λ i. one_of_run 65 26 c i || one_of_run 97 26 c i) ∙ either_run c

contains-alphabet : (c : ℕ) → set.contains {R = nat_cmp} (set.from_list letters) c ≡ is_letter c
contains-alphabet c = set.contains-from_list_nat letters c ∙ list_any-letters c

-- ---- a word as a set

pub contains-letters_in : (w c : ℕ) → set.contains (letters_in w) c ≡ (is_letter c && (bit_at w (place_of c) == 1))
unfolding letters_in
contains-letters_in w c =
    set.contains-retain (set.from_list letters) (λ x. bit_at w (place_of x) == 1) c
    (λ x e. ap (λ y. bit_at w (place_of y) == 1) (sym (set.nat_cmp-IsAntisymmetric c x e)))
    ∙ ap (λ b. b && (bit_at w (place_of c) == 1)) (contains-alphabet c)

-- ---- the word of a set

word_by-same : (n : ℕ) (p q : ℕ → Bool) → ((i : ℕ) → i < n → p i ≡ q i) → word_by n p ≡ word_by n q
unfolding word_by
word_by-same zero p q h = refl
word_by-same (suc n) p q h =
    ap (λ b. cond b 1 0 + 2 * word_by n (λ i. p (suc i))) (h 0 (omega arith))
    ∙ ap (λ k. cond (q 0) 1 0 + 2 * k) (word_by-same n (λ i. p (suc i)) (λ i. q (suc i)) (λ i l. h (suc i) (omega arith)))

low_bit : (w : ℕ) → cond (bit_at w 0 == 1) 1 0 ≡ w % 2
low_bit w = let b = bit_at_lowest w in let l = bit_at-lt w 0 in grind (arith, nat_tests)

word_by-bits : (n w : ℕ) → w < 2 ^ n → word_by n (λ i. bit_at w i == 1) ≡ w
unfolding word_by
word_by-bits zero w h = omega arith
word_by-bits (suc n) w h =
    let half : w / 2 < 2 ^ n = omega (arith, pow-suc 2 n) in
    let deeper = word_by-same n (λ i. bit_at w (suc i) == 1) (λ i. bit_at (w / 2) i == 1) (λ i l. ap (λ b. b == 1) (bit_at-suc w i)) in
    let whole : w % 2 + 2 * (w / 2) ≡ w = omega arith in
    ap (λ k. cond (bit_at w 0 == 1) 1 0 + 2 * k) (deeper ∙ word_by-bits n (w / 2) half) ∙ ap (λ k. k + 2 * (w / 2)) (low_bit w) ∙ whole

place-letter : (i : ℕ) → i < 52 → place_of (letter_at i) ≡ i
place-letter i h = grind (arith, nat_tests)

letter-place : (i : ℕ) → i < 52 → is_letter (letter_at i) ≡ true
letter-place i h = grind (arith, nat_tests)

pub at_place : (w i : ℕ) → i < 52 → set.contains (letters_in w) (letter_at i) ≡ (bit_at w i == 1)
at_place w i h =
    contains-letters_in w (letter_at i)
    ∙ ap (λ b. b && (bit_at w (place_of (letter_at i)) == 1)) (letter-place i h)
    ∙ ap (λ k. bit_at w k == 1) (place-letter i h)

pub word_of-letters_in : (w : ℕ) → w < 2 ^ 52 → word_of (letters_in w) ≡ w
unfolding word_of
word_of-letters_in w h =
    word_by-same 52 (λ i. set.contains (letters_in w) (letter_at i)) (λ i. bit_at w i == 1) (at_place w) ∙ word_by-bits 52 w h

-- the word that a set was seen from
pub word_of_seen : (s : Set) (w : ℕ) → w < 2 ^ 52 → letters_in w ≡ s → word_of s ≡ w
word_of_seen s w h seen = ap word_of (sym seen) ∙ word_of-letters_in w h

-- the fields that a set gives back are those that it was seen from
pub word_of_fields : (f : Inside) → f.word < 2 ^ 52 → (let g : Inside = record { word = word_of (letters_in f.word) } in g) ≡ f
word_of_fields f h = ap (λ w. let g : Inside = record { word = w } in g) (word_of-letters_in f.word h)
