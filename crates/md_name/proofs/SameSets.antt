-- Sets of flags: whether two have the same letters, and the words that they are kept as.
use Rattle.std.proofs.Common.{ℕ, zero, suc, ◌≡◌, ◌+◌, ◌*◌, ◌<◌, Bool, true, false, cond, nat_eq, inl, inr, refl, sym, ap, ◌∙◌, arith}
use Rattle.std.proofs.lemmas.Bool.Decides.{nat_tests, eqb_tells}
use Rattle.std.specs.Cmp.{nat_cmp_total}
use Rattle.std.specs.FinSet as set
use Rattle.std.proofs.lemmas.Bool.{and_parts, and_from, or_left}
use Rattle.md_name.specs.Letters.{is_letter, Set, IsOfLetters, is_same_set}
use Rattle.md_name.specs.Words.{word_by, word_of, place_of, letter_at}

-- sets with the same letters are one
pub same-sets : (a b : Set) → is_same_set a b ≡ true → a ≡ b
same-sets a b is =
    let parts = and_parts (set.is_subset a b) (set.is_subset b a) is in
    set.same_set nat_cmp_total set.nat_cmp-IsAntisymmetric a b (λ q.
    both (set.contains a q) (set.contains b q) (set.is_subset-contains nat_cmp_total a b parts.0 q) (set.is_subset-contains nat_cmp_total b a parts.1 q))
  where
    both : (x y : Bool) → (x ≡ true → y ≡ true) → (y ≡ true → x ≡ true) → x ≡ y
    both true y there back = sym (there refl)
    both false true there back = back refl
    both false false there back = refl

pub sets-same : (a b : Set) → a ≡ b → is_same_set a b ≡ true
sets-same a b is = and_from (set.is_subset a b) (set.is_subset b a)
    (set.contains-is_subset nat_cmp_total a b (λ q one. ap (λ (s : Set). set.contains s q) (sym is) ∙ one))
    (set.contains-is_subset nat_cmp_total b a (λ q one. ap (λ (s : Set). set.contains s q) is ∙ one))

-- a set is some of it and another
pub subset-union : (a b : Set) → set.is_subset a (set.union a b) ≡ true
subset-union a b = set.contains-is_subset nat_cmp_total a (set.union a b) (λ q one.
    set.contains-union nat_cmp_total a b q ∙ or_left (set.contains a q) (set.contains b q) one)

-- ---- words

-- two numbers of the same first bits, bit by bit
word_by-tells : (n : ℕ) (p q : ℕ → Bool) → word_by n p ≡ word_by n q → (i : ℕ) → i < n → p i ≡ q i
unfolding word_by
word_by-tells zero p q same i within = absurd (omega arith)
word_by-tells (suc n) p q same i within =
    let a = word_by n (λ j. p (suc j)) in
    let b = word_by n (λ j. q (suc j)) in
    let parts = halves (p 0) (q 0) a b same in
    at i within parts.0 (λ j less. word_by-tells n (λ k. p (suc k)) (λ k. q (suc k)) parts.1 j less)
  where
    halves : (x y : Bool) (a b : ℕ) → cond {A = ℕ} x 1 0 + 2 * a ≡ cond {A = ℕ} y 1 0 + 2 * b → (x ≡ y) × (a ≡ b)
    halves true true a b is = (refl, omega arith)
    halves false false a b is = (refl, omega arith)
    halves true false a b is = absurd (omega arith)
    halves false true a b is = absurd (omega arith)

    at : (i : ℕ) → i < suc n → p 0 ≡ q 0 → ((j : ℕ) → j < n → p (suc j) ≡ q (suc j)) → p i ≡ q i
    at zero within first later = first
    at (suc j) within first later = later j (omega arith)

place-within : (c : ℕ) → is_letter c ≡ true → place_of c < 52
place-within c is = grind (arith, nat_tests)

letter-at : (c : ℕ) → is_letter c ≡ true → letter_at (place_of c) ≡ c
letter-at c is = grind (arith, nat_tests)

-- sets of letters that are kept as one word are one
words-tell : (a b : Set) → IsOfLetters a → IsOfLetters b → word_of a ≡ word_of b → a ≡ b
unfolding word_of
words-tell a b la lb same = set.same_set nat_cmp_total set.nat_cmp-IsAntisymmetric a b (λ c. by c (is_letter c) refl)
  where
    has_none : (s : Set) → IsOfLetters s → (c : ℕ) → is_letter c ≡ false → (x : Bool) → set.contains s c ≡ x → set.contains s c ≡ false
    has_none s ls c is true has = let letter = ls.each c has in cc
    has_none s ls c is false has = has

    by : (c : ℕ) (x : Bool) → is_letter c ≡ x → set.contains a c ≡ set.contains b c
    by c true is =
        let one = word_by-tells 52 (λ i. set.contains a (letter_at i)) (λ i. set.contains b (letter_at i)) same (place_of c) (place-within c is) in
        let at = letter-at c is in
        ap (set.contains a) (sym at) ∙ one ∙ ap (set.contains b) at
    by c false is = has_none a la c is _ refl ∙ sym (has_none b lb c is _ refl)

-- so their words tell whether they have the same letters
pub words-same : (a b : Set) → IsOfLetters a → IsOfLetters b → nat_eq (word_of a) (word_of b) ≡ is_same_set a b
words-same a b la lb = elim (eqb_tells (word_of a) (word_of b)) [
  | inl is ↦ is.0 ∙ sym (sets-same a b (words-tell a b la lb is.1))
  | inr not ↦ not.0 ∙ sym (apart (is_same_set a b) refl (λ is. not.1 (ap word_of is)))
]
  where
    apart : (x : Bool) → is_same_set a b ≡ x → (a ≡ b → ⊥) → is_same_set a b ≡ false
    apart true is differ = absurd (differ (same-sets a b is))
    apart false is differ = is
