-- A number, read digit by digit.
use Rattle.std.proofs.Common.{◌≡◌, ◌∙◌, sym, ap, subst, ℕ, zero, suc, ◌+◌, ◌-◌, ◌*◌, ◌^◌, ◌%◌, ◌<◌, ◌≤◌, ◌==◌, Option, true, false, List, [], ◌∷◌, length, get_or, take, drop, refl, None, Some, inl, inr, not, arith, length-take-le}
use Rattle.std.proofs.lemmas.Bool.{cases_lt, eqb-true}
use Rattle.std.proofs.lemmas.Bool.Decides.{nat_tests}
use Rattle.std.proofs.lemmas.List.{take_all, get_or-take, length-take}
use Rattle.std.proofs.lemmas.Option.{slice_get-get_or, slice_get_past, slice_get_read}
use Rattle.std.proofs.lemmas.Int.Digits.{digits_value_more}
use Rattle.std.proofs.lemmas.List.Sums.{passes_at_first, prefix_len-le-length}
use Rattle.std.proofs.lemmas.Str.{digit_value_digit}
use Rattle.std.proofs.lemmas.Str.Parse.{numerals_by_value, tells_all_ascii_digits, tells_by_index, IsNumeralModel, digit_at, digits_value-take-le, digits_value_short}
use Rattle.std.specs.List.{position_or_len, slice_get}
use Rattle.std.specs.Option.{option_copied}
use Rattle.std.specs.Slice.{IsItemAt}
use denote.Bor.{Bor}
use Rattle.std.specs.Int.{IsInRange}
use Rattle.std.specs.Str.{all_ascii_digits}
use Rattle.std.specs.Str.Parse.{digits_value}
use Rattle.memchr.specs.Find.{Nowhere, Passes, is_byte}
use Rattle.md_text.specs.Words.{Rest, Spells, SpellsNone, cut_at, nonempty_word, next_word, number_in}
use Rattle.md_text.proofs.Cuts.{cut_nowhere, cut_first}

own : IsNumeralModel (λ ds. all_ascii_digits ds ≡ true) (digits_value 10)
own = numerals_by_value (λ ds. all_ascii_digits ds ≡ true) tells_all_ascii_digits

by_index : IsNumeralModel (λ ds. (i : ℕ) → i < length ds → IsInRange 48 57 (get_or ds i 0)) (digits_value 10)
by_index = numerals_by_value (λ ds. (i : ℕ) → i < length ds → IsInRange 48 57 (get_or ds i 0)) tells_by_index

number_good : (most : ℕ) (word : List ℕ) → 0 < length word → length word ≤ most → all_ascii_digits word ≡ true → digits_value 10 word < 2 ^ 64 →
    number_in most word ≡ Some (digits_value 10 word)
unfolding number_in
number_good most word a b c d = grind (arith, nat_tests)

pub number_bad : (most : ℕ) (word : List ℕ) → (0 < length word → length word ≤ most → all_ascii_digits word ≡ true → digits_value 10 word < 2 ^ 64 → ⊥) →
    number_in most word ≡ None
unfolding number_in
number_bad most word h = grind (arith, nat_tests)

-- The digits in front of a text that are so few that one more makes no number that is too large.
pub few_digits : (text : List ℕ) (at : ℕ) → at ≤ length text → at ≤ 18 → ((i : ℕ) → i < at → IsInRange 48 57 (get_or text i 0)) →
    digits_value 10 (take at text) < 1000000000000000000
few_digits text at within few digits =
    let long : length (take at text) ≡ at = length-take-le at text within in
    digits_value_short by_index (take at text) 18 (λ i h. subst (IsInRange 48 57) (sym (get_or-take at text i 0 (omega (arith, long, h)))) (digits i (omega (arith, long, h))))
    (omega (arith, long))

-- Where digits end, at a space or with the text, a word ends.
no_space : (text : List ℕ) (at : ℕ) → ((i : ℕ) → i < at → IsInRange 48 57 (get_or text i 0)) → Nowhere (Passes (is_byte 32) text) 0 at
no_space text at digits i low high space = absurd (omega (arith, digits i high, eqb-true (get_or text i 0) 32 space))

pub ends_at_space : (text : List ℕ) (at : ℕ) → at < length text → get_or text at 0 ≡ 32 → ((i : ℕ) → i < at → IsInRange 48 57 (get_or text i 0)) →
    cut_at 32 text ≡ (take at text, Some (take (length text - (at + 1)) (drop (at + 1) text)))
ends_at_space text at within space digits =
    cut_first 32 text at (record { low = omega arith; high = within; before = no_space text at digits }, ap (is_byte 32) space)

pub ends_with_text : (text : List ℕ) (at : ℕ) → at ≡ length text → ((i : ℕ) → i < at → IsInRange 48 57 (get_or text i 0)) →
    cut_at 32 text ≡ (take at text, None)
ends_with_text text at all digits =
    let alone : List ℕ → List ℕ × Rest = λ word. (word, None) in
    cut_nowhere 32 text (subst (Nowhere (Passes (is_byte 32) text) 0) all (no_space text at digits)) ∙ ap alone (sym (take_all at text (omega (arith, all))))

pub front_within : (front text : List ℕ) → front ≡ take (length front) text → length front ≤ length text
front_within front text is = omega (arith, ap length is, length-take (length front) text)

-- a byte less the first digit, where that is small
pub read_digit : (byte from least : ℕ) → byte < 256 → from ≡ byte → least ≡ 48 → (from + (2 ^ 64 - least)) % 2 ^ 64 ≤ 9
    → IsInRange 48 57 byte × ((from + (2 ^ 64 - least)) % 2 ^ 64 ≡ byte - 48)
read_digit byte from least small is first few = ((omega arith, omega arith), omega arith)

-- the byte at a place, as it is lent
pub item : (text : List ℕ) (at : ℕ) (byte : Option (Bor ℕ)) → IsItemAt text at byte → option_copied byte ≡ slice_get text at
item text at None is = sym (slice_get_past text at is.3)
item text at (Some b) is = sym (slice_get_read text (length text) at b.now refl is.3.0 is.1)

-- where a text has no byte, it ends
pub whole : (text : List ℕ) (at : ℕ) → at ≤ length text → slice_get text at ≡ None → at ≡ length text
whole text at within none =
    elim (cases_lt at (length text)) [
      | inl inside ↦ let some = slice_get-get_or text at 0 inside in cc
      | inr past ↦ omega (arith, within, past)
    ]

-- a word that is not empty is one
nonempty : (word : List ℕ) (rest : Rest) → 0 < length word → nonempty_word (word, rest) ≡ Some (word, rest)
nonempty [] rest some = absurd (omega (arith, some))
nonempty (b ∷ word) rest some = refl

-- the word that is next
abbrev taken : Option (List ℕ × Rest) → List ℕ
taken None = []
taken (Some read) = read.0

word_of : (front : List ℕ) (rest : Rest) (word : List ℕ) (left : Rest) → nonempty_word (front, rest) ≡ Some (word, left) → word ≡ front
word_of [] rest word left is = cc
word_of (b ∷ front) rest word left is = sym (ap taken is)

-- A word of so few digits is read as a number, whatever is left behind it.
pub short_read : (text : List ℕ) (at value : ℕ) (rest : Rest) → cut_at 32 text ≡ (take at text, rest) → at ≤ length text → 0 < at → at ≤ 19 →
    value ≡ digits_value 10 (take at text) → ((i : ℕ) → i < at → IsInRange 48 57 (get_or text i 0)) → Spells 20 (Some text) value rest
unfolding next_word
short_read text at value rest cut within some short so_far digits =
    let word : List ℕ = take at text in
    let long : length word ≡ at = length-take-le at text within in
    let all : (i : ℕ) → i < length word → IsInRange 48 57 (get_or word i 0) =
    λ i h. subst (IsInRange 48 57) (sym (get_or-take at text i 0 (omega (arith, long, h)))) (digits i (omega (arith, long, h))) in
    let fits : digits_value 10 word < 10 ^ 19 = digits_value_short by_index word 19 all (omega (arith, long)) in
    record {
      word = word;
      next = ap nonempty_word cut ∙ nonempty word rest (omega (arith, long));
      is = number_good 20 word (omega (arith, long)) (omega (arith, long)) (own.from word (by_index.to word all)) (omega (arith, fits))
          ∙ ap Some (sym so_far);
    }

-- a word that is not empty
pub some_byte : (n : ℕ) → (n == 0) ≡ false → 0 < n
some_byte zero is = cc
some_byte (suc n) is = omega arith

-- one digit more
module _ (word : List ℕ) (at value : ℕ) (within : at < length word) (so_far : value ≡ digits_value 10 (take at word)) where
  pub digit_more : (next : ℕ) → IsInRange 48 57 (get_or word at 0) → next ≡ value * 10 + (get_or word at 0 - 48) → next ≡ digits_value 10 (take (at + 1) word)
  digit_more next digit is = omega (arith, digits_value_more 10 word at within, digit_value_digit (get_or word at 0) digit)

  -- a byte that is no digit, or makes the number too large
  pub number_ends : (most : ℕ) → (IsInRange 48 57 (get_or word at 0) × (value * 10 + (get_or word at 0 - 48) < 2 ^ 64) → ⊥) → number_in most word ≡ None
  number_ends most never =
      number_bad most word (λ some short digits fits.
      let digit : IsInRange 48 57 (get_or word at 0) = digit_at word at (own.to word digits) within in
      let least : digits_value 10 (take (at + 1) word) ≤ digits_value 10 word = digits_value-take-le 10 word (at + 1) (omega arith) in
      let is : value * 10 + (get_or word at 0 - 48) ≡ digits_value 10 (take (at + 1) word) = digit_more (value * 10 + (get_or word at 0 - 48)) digit refl in
      never (digit, omega (arith, fits, least, is)))

-- all digits
pub number_whole : (most : ℕ) (word : List ℕ) (at value : ℕ) → at ≡ length word → 0 < length word → length word ≤ most → value < 2 ^ 64
    → value ≡ digits_value 10 (take at word) → ((i : ℕ) → i < at → IsInRange 48 57 (get_or word i 0)) → number_in most word ≡ Some value
number_whole most word at value all some short fits so_far digits =
    let same : value ≡ digits_value 10 word = so_far ∙ ap (digits_value 10) (take_all at word (omega arith)) in
    number_good most word some short (own.from word (by_index.to word (λ i h. digits i (omega (arith, all, h))))) (subst (λ n. n < 2 ^ 64) same fits)
    ∙ ap Some (sym same)

-- A number's digits end at a place: where the word goes on there, it spells none of so few digits; else the place is the first.
pub none_read : (text : List ℕ) (at most : ℕ) → at ≤ length text → ((i : ℕ) → i < at → IsInRange 48 57 (get_or text i 0))
    → (at < most → ¬ IsInRange 48 57 (get_or text at 0)) → (slice_get text at ≡ None → at ≡ 0) → (slice_get text at ≡ Some 32 → at ≡ 0)
    → SpellsNone most (Some text)
unfolding next_word cut_at
none_read text at most within digits stops ended spaced word left next =
    let n = position_or_len (is_byte 32) text in
    let least : n ≤ length text = prefix_len-le-length (λ b. not (is_byte 32 b)) text in
    let long : length (take n text) ≡ n = length-take-le n text least in
    let word_is = word_of (take n text) _ word left next in
    let front : at ≤ n = elim (cases_lt n at) [
      | inl before ↦ absurd (no_space text at digits n (omega arith) before (passes_at_first (is_byte 32) text 0 (omega (arith, before, within))))
      | inr past ↦ omega (arith, past)
    ] in
    number_bad most word (λ some short all fits.
    let size : length word ≡ n = ap length word_is ∙ long in
    let goes_on : at < n = elim (cases_lt at n) [
      | inl before ↦ before
      | inr past ↦
          let same : at ≡ n = omega (arith, past, front) in
          elim (cases_lt at (length text)) [
            | inl inside ↦
                let space : get_or text at 0 ≡ 32 =
                eqb-true (get_or text at 0) 32
                (subst (λ k. is_byte 32 (get_or text k 0) ≡ true) (sym same) (passes_at_first (is_byte 32) text 0 (omega (arith, same, inside)))) in
                absurd (omega (arith, spaced (slice_get-get_or text at 0 inside ∙ ap Some space), some, size, same))
            | inr outside ↦ absurd (omega (arith, ended (slice_get_past text at (omega (arith, outside))), some, size, same))
          ]
    ] in
    let digit : IsInRange 48 57 (get_or word at 0) = digit_at word at (own.to word all) (omega (arith, goes_on, size)) in
    let same : get_or word at 0 ≡ get_or text at 0 = ap (λ bytes. get_or bytes at 0) word_is ∙ get_or-take n text at 0 goes_on in
    absurd (stops (omega (arith, goes_on, size, short)) (subst (IsInRange 48 57) same digit)))
