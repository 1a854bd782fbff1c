-- What the code's steps on a word do to the set of its letters.
use Rattle.std.proofs.Common.{◌≡◌, ◌≤◌, ◌≢◌, ◌++◌, List, [], ◌∷◌, ℕ, zero, suc, cond, length, get_or, take, ◌+◌, ◌-◌, ◌*◌, ◌/◌, ◌%◌, ◌^◌, ◌<◌, Bool, true, false, ◌&&◌, ◌||◌, not, refl, sym, ap, subst, ◌∙◌, arith, ⊎_elim}
use Rattle.std.specs.Prelude.{◌==◌, nat_eq, nat_lt, min, bit_or, bit_and, filter}
use Rattle.std.proofs.lemmas.List.{append_assoc, append-nil, take_all, take_more}
use Rattle.std.proofs.lemmas.List.Elements.{filter-append}
use Rattle.std.proofs.lemmas.Bool.Decides.{nat_tests, eqb_tells}
use Rattle.std.proofs.lemmas.Nat.Bits.{bit_at-zero, bit_at-lt, bit_at_or, bit_at_and, bit_at_not, shr_and_one, bit_at_above, bit_at-trailing_zeros, bit_at_set_same, bit_at_set_other}
use Rattle.std.proofs.lemmas.Nat.{pow_below, shr-shr, shr_le}
use Rattle.std.proofs.Math.Nat.{mod-le, lt-mul-div-succ}
use Rattle.std.proofs.lemmas.Nat.{pow_pos}
use Rattle.std.specs.Int.{bit_at, bit_not, trailing_zeros, w64}
use Rattle.std.specs.Ordering.{nat_cmp}
use Rattle.std.specs.Cmp.{nat_cmp_total, unsigned_tied}
use Rattle.std.specs.FinSet as set
use Rattle.md_name.specs.Letters.{is_letter, letters, Set}
use Rattle.md_name.specs.Words.{place_of, letter_at, letters_in}
use Rattle.md_name.specs.WordSets.{contains-letters_in, at_place}

same_set : (s t : Set) → ((c : ℕ) → set.contains s c ≡ set.contains t c) → s ≡ t
same_set s t = set.same_set nat_cmp_total set.nat_cmp-IsAntisymmetric s t

-- ---- no bits

empty_bits : (c : ℕ) → (is_letter c && (bit_at 0 (place_of c) == 1)) ≡ false
empty_bits c = let z = bit_at-zero (place_of c) in grind (arith, nat_tests)

pub letters_in-zero : letters_in 0 ≡ set.empty
letters_in-zero = same_set _ _ (λ c. contains-letters_in 0 c ∙ empty_bits c ∙ sym (set.contains-empty nat_cmp c))

-- ---- the bits of two words

or_bits : (a b c : ℕ)
    → (is_letter c && (bit_at (bit_or a b) (place_of c) == 1)) ≡
    ((is_letter c && (bit_at a (place_of c) == 1)) || (is_letter c && (bit_at b (place_of c) == 1)))
or_bits a b c =
    let z = bit_at_or a b (place_of c) in
    let l = bit_at-lt a (place_of c) in
    let m = bit_at-lt b (place_of c) in
    grind (arith, nat_tests)

pub letters_in-or : (a b : ℕ) → letters_in (bit_or a b) ≡ set.union (letters_in a) (letters_in b)
letters_in-or a b = same_set _ _ (λ c.
    contains-letters_in (bit_or a b) c ∙ or_bits a b c
    ∙ sym (set.contains-union nat_cmp_total (letters_in a) (letters_in b) c ∙ (λ i. contains-letters_in a c i || contains-letters_in b c i)))

-- ---- the bits that another word lacks

letter_place : (c : ℕ) → is_letter c ≡ true → place_of c < 64
letter_place c e = grind (arith, nat_tests)

kept : (x y z : ℕ) → x < 2 → y < 2 → z ≡ min x (1 - y) → (z == 1) ≡ ((x == 1) && not (y == 1))
kept x y z h k e = grind (arith, nat_tests)

kept_if : (l : Bool) (x y z : ℕ) → x < 2 → y < 2 → (l ≡ true → z ≡ min x (1 - y)) → (l && (z == 1)) ≡ ((l && (x == 1)) && not (l && (y == 1)))
kept_if true x y z h k e = kept x y z h k (e refl)
kept_if false x y z h k e = refl

not_bits : (a b c : ℕ) → b < 2 ^ 64
    → (is_letter c && (bit_at (bit_and a (bit_not w64 b)) (place_of c) == 1)) ≡
    ((is_letter c && (bit_at a (place_of c) == 1)) && not (is_letter c && (bit_at b (place_of c) == 1)))
not_bits a b c h =
    kept_if (is_letter c) (bit_at a (place_of c)) (bit_at b (place_of c)) (bit_at (bit_and a (bit_not w64 b)) (place_of c))
    (bit_at-lt a (place_of c)) (bit_at-lt b (place_of c))
    (λ e. bit_at_and a (bit_not w64 b) (place_of c) ∙ ap (min (bit_at a (place_of c))) (bit_at_not w64 b (place_of c) h (letter_place c e)))

pub letters_in-and_not : (a b : ℕ) → b < 2 ^ 64 → letters_in (bit_and a (bit_not w64 b)) ≡ set.difference (letters_in a) (letters_in b)
letters_in-and_not a b h = same_set _ _ (λ c.
    contains-letters_in (bit_and a (bit_not w64 b)) c ∙ not_bits a b c h
    ∙ sym (set.contains-difference nat_cmp_total (letters_in a) (letters_in b) c ∙ (λ i. contains-letters_in a c i && not (contains-letters_in b c i))))

-- ---- the bit of one letter

pub has_bit : (w k c : ℕ) → true ≡ is_letter c → k ≡ place_of c → nat_eq (bit_and (w / 2 ^ k) 1) 1 ≡ (is_letter c && (bit_at w (place_of c) == 1))
has_bit w k c is e =
    ap (λ b. nat_eq b 1) (shr_and_one w k) ∙ ap (λ i. nat_eq (bit_at w i) 1) e ∙ ap (λ b. b && (bit_at w (place_of c) == 1)) is

pub no_letter : (b : Bool) (w c : ℕ) → false ≡ is_letter c → b ≡ false → b ≡ (is_letter c && (bit_at w (place_of c) == 1))
no_letter b w c other e = e ∙ ap (λ t. t && (bit_at w (place_of c) == 1)) other

place_apart : (q c : ℕ) → is_letter q ≡ true → is_letter c ≡ true → q ≢ c → place_of q ≢ place_of c
place_apart q c a b ne e = grind (arith, nat_tests)

-- ---- a word with the bit of one letter more

-- the word of the letter c alone
abbrev pub bit_of : ℕ → ℕ
bit_of c = 1 * 2 ^ place_of c % 2 ^ 64

same_letter : (w c : ℕ) → is_letter c ≡ true → (is_letter c && (bit_at (bit_or w (bit_of c)) (place_of c) == 1)) ≡ true
same_letter w c e =
    ap (λ b. b && (bit_at (bit_or w (bit_of c)) (place_of c) == 1)) e
    ∙ ap (λ n. n == 1) (bit_at_set_same w64 w (place_of c) (letter_place c e))

other_letter : (w c q : ℕ) (b : Bool) → is_letter q ≡ b → is_letter c ≡ true → q ≢ c
    → (b && (bit_at (bit_or w (bit_of c)) (place_of q) == 1)) ≡ (b && (bit_at w (place_of q) == 1))
other_letter w c q false a e ne = refl
other_letter w c q true a e ne = ap (λ n. n == 1) (bit_at_set_other w64 w (place_of c) (letter_place c e) (place_of q) (place_apart q c a e ne))

insert_bits : (w c q : ℕ) → is_letter c ≡ true
    → (is_letter q && (bit_at (bit_or w (bit_of c)) (place_of q) == 1)) ≡ (nat_eq q c || (is_letter q && (bit_at w (place_of q) == 1)))
insert_bits w c q e =
    ⊎_elim
    (λ h. ap (λ x. is_letter x && (bit_at (bit_or w (bit_of c)) (place_of x) == 1)) h.1 ∙ same_letter w c e
    ∙ sym (ap (λ t. t || (is_letter q && (bit_at w (place_of q) == 1))) h.0))
    (λ h. other_letter w c q (is_letter q) refl e h.1 ∙ sym (ap (λ t. t || (is_letter q && (bit_at w (place_of q) == 1))) h.0))
    (eqb_tells q c)

pub letters_in-insert : (w c : ℕ) → is_letter c ≡ true → letters_in (bit_or w (bit_of c)) ≡ set.insert (letters_in w) c
letters_in-insert w c e = same_set _ _ (λ q.
    contains-letters_in (bit_or w (bit_of c)) q ∙ insert_bits w c q e
    ∙ sym (set.contains-insert nat_cmp_total (letters_in w) c q ∙ (λ i. unsigned_tied q c i || contains-letters_in w q i)))

pub bit_of-within : (k : ℕ) → k < 52 → 1 * 2 ^ k % 2 ^ 64 < 2 ^ 52
bit_of-within k h = let small = pow_below k 52 h in let part = mod-le (1 * 2 ^ k) (2 ^ 64) in omega arith

-- ---- the letters up to a place

listed : (ℕ → ℕ) → ℕ → List ℕ
listed f zero = []
listed f (suc n) = f 0 ∷ listed (λ i. f (suc i)) n

at-listed : (f : ℕ → ℕ) (n i d : ℕ) → i < n → get_or (listed f n) i d ≡ f i
unfolding listed
at-listed f zero i d within = absurd (omega arith)
at-listed f (suc n) zero d within = refl
at-listed f (suc n) (suc i) d within = at-listed (λ j. f (suc j)) n i d (omega arith)

each-letter : letters ≡ listed letter_at 52
unfolding letters listed
each-letter = refl

pub letter_of : (i d : ℕ) → i < 52 → get_or letters i d ≡ letter_at i
letter_of i d within = ap (λ cs. get_or cs i d) each-letter ∙ at-listed letter_at 52 i d within

module _ (s : Set) (w i : ℕ) (seen : letters_in w ≡ s) (within : i < 52) where
  among : ℕ → Bool
  among c = set.contains s c

  -- those of the letters up to a place that are in the set of a word: with one place more, that letter too where its bit is set
  spelled : filter among (take (i + 1) letters) ≡ filter among (take i letters) ++ cond (bit_at w i == 1) (letter_at i ∷ []) []
  unfolding listed among
  spelled =
      let long : length letters ≡ 52 = ap length each-letter in
      ap (filter among) (take_more letters i 0 (omega (arith, long)) ∙ ap (λ c. take i letters ++ c ∷ []) (letter_of i 0 within))
      ∙ filter-append among (take i letters) (letter_at i ∷ [])
      ∙ ap (λ b. filter among (take i letters) ++ cond b (letter_at i ∷ []) []) (ap (λ t. set.contains t (letter_at i)) (sym seen) ∙ at_place w i within)

  -- with a place more whose bit is not set, they are the same
  spelled-no_more : bit_at w i ≡ 0 → filter (λ c. set.contains s c) (take (i + 1) letters) ≡ filter (λ c. set.contains s c) (take i letters)
  unfolding among
  spelled-no_more clear =
      spelled ∙ ap (λ b. filter among (take i letters) ++ cond (b == 1) (letter_at i ∷ []) []) clear ∙ append-nil (filter among (take i letters))

  -- so is a text that they stand behind
  pub spelled-more : (before text : List ℕ) → text ≡ before ++ filter (λ c. set.contains s c) (take i letters)
      → text ++ cond (bit_at w i == 1) (letter_at i ∷ []) [] ≡ before ++ filter (λ c. set.contains s c) (take (i + 1) letters)
  unfolding among
  spelled-more before text is =
      ap (λ cs. cs ++ cond (bit_at w i == 1) (letter_at i ∷ []) []) is
      ∙ append_assoc before (filter among (take i letters)) (cond (bit_at w i == 1) (letter_at i ∷ []) [])
      ∙ ap (λ cs. before ++ cs) (sym spelled)

-- where the bits of some places are clear, their letters are not in the set
spelled-skip : (s : Set) (w i k : ℕ) → letters_in w ≡ s → ((j : ℕ) → j < k → bit_at w (i + j) ≡ 0) → i + k ≤ 52
    → filter (λ c. set.contains s c) (take (i + k) letters) ≡ filter (λ c. set.contains s c) (take i letters)
spelled-skip s w i zero seen clear within = ap (λ n. filter (λ c. set.contains s c) (take n letters)) (omega arith)
spelled-skip s w i (suc k) seen clear within =
    ap (λ n. filter (λ c. set.contains s c) (take n letters)) (omega arith)
    ∙ spelled-no_more s w (i + k) seen (omega arith) (clear k (omega arith))
    ∙ spelled-skip s w i k seen (λ j below. clear j (omega (arith, below))) (omega arith)

-- the next letter of the set from a place on is that of the lowest bit
module _ (s : Set) (w i : ℕ) (seen : letters_in w ≡ s) (small : w < 2 ^ 52) (some : 0 < w / 2 ^ i) where
  next : ℕ
  next = i + trailing_zeros w64 (w / 2 ^ i)

  found : (bit_at w next ≡ 1) × ((j : ℕ) → j < trailing_zeros w64 (w / 2 ^ i) → bit_at w (i + j) ≡ 0)
  unfolding next
  found =
      let part = shr_le w i in
      let facts = bit_at-trailing_zeros w64 (w / 2 ^ i) some (omega (arith, part, small)) in (
        ap (λ n. n % 2) (sym (shr-shr w i (trailing_zeros w64 (w / 2 ^ i)))) ∙ facts.1,
        λ j below. ap (λ n. n % 2) (sym (shr-shr w i j)) ∙ facts.2 j below,
      )

  pub next-within : i + trailing_zeros w64 (w / 2 ^ i) < 52
  unfolding next
  next-within = by (nat_lt next 52) refl
    where
      by : (b : Bool) → nat_lt next 52 ≡ b → next < 52
      by true is = grind (arith, nat_tests)
      by false is = let none = bit_at_above w 52 next small (grind (arith, nat_tests)) in let one = found.0 in cc

  pub next-spelled : (before text : List ℕ) → text ≡ before ++ filter (λ c. set.contains s c) (take i letters)
      → text ++ letter_at (i + trailing_zeros w64 (w / 2 ^ i)) ∷ [] ≡ before ++ filter (λ c. set.contains s c) (take (i + trailing_zeros w64 (w / 2 ^ i) + 1) letters)
  unfolding next
  next-spelled before text is =
      let same = spelled-skip s w i (trailing_zeros w64 (w / 2 ^ i)) seen found.1 (omega (arith, next-within)) in
      ap (λ b. text ++ cond (b == 1) (letter_at next ∷ []) []) (sym found.0)
      ∙ spelled-more s w next seen next-within before text (is ∙ ap (λ cs. before ++ cs) (sym same))

below_by_quotient : (w b : ℕ) → 0 < b → w / b ≡ 0 → w < b
below_by_quotient w b some none = let small = subst (λ n. w < b * (n + 1)) none (lt-mul-div-succ w some) in omega arith

-- so they are those of all letters
pub spelled-whole : (s : Set) (w i : ℕ) → letters_in w ≡ s → w / 2 ^ i ≡ 0 → i ≤ 52
    → filter (λ c. set.contains s c) letters ≡ filter (λ c. set.contains s c) (take i letters)
unfolding listed
spelled-whole s w i seen none within =
    let long : length letters ≡ 52 = ap length each-letter in
    let end : 52 ≡ i + (52 - i) = omega arith in
    sym (ap (filter (λ c. set.contains s c)) (take_all 52 letters (omega (arith, long))))
    ∙ ap (λ n. filter (λ c. set.contains s c) (take n letters)) end
    ∙ spelled-skip s w i (52 - i) seen
    (λ j below. bit_at_above w i (i + j) (below_by_quotient w (2 ^ i) (pow_pos i) none) (omega arith)) (omega (arith, within))
