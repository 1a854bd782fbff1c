-- The bytes of a made unique name: four numbers and a host, with other bytes between.
use Rattle.std.proofs.Common.{◌≡◌, ℕ, ◌^◌, ◌<◌, Bool, true, false, ◌&&◌, List, [], ◌∷◌, ◌++◌, length, refl, ap, arith}
use Rattle.std.specs.Char.{is_ascii_digit}
use Rattle.std.specs.Str.{all_ascii_digits}
use Rattle.std.specs.Str.Parse.{digits_value}
use Rattle.std.specs.List.{list_any}
use Rattle.std.specs.Fmt.{decimal}
use Rattle.std.proofs.lemmas.Bool.{and_parts, or_from}
use Rattle.std.proofs.lemmas.Bool.Decides.{nat_tests}
use Rattle.std.proofs.lemmas.Str.Parse.{IsNumeralModel, numerals_by_value, tells_all_ascii_digits}
use Rattle.std.proofs.lemmas.Fmt.{digits_decimal}
use Rattle.md_name.specs.Names.{begins_with_dot}

abbrev IsDigits : List ℕ → Type 0
IsDigits ds = all_ascii_digits ds ≡ true

own : IsNumeralModel IsDigits (digits_value 10)
own = numerals_by_value _ tells_all_ascii_digits

pub digits-decimal : (n : ℕ) → n < 2 ^ 64 → all_ascii_digits (decimal n) ≡ true
digits-decimal n h = digits_decimal own n h

pub and_first : (a b : Bool) → (a && b) ≡ true → a ≡ true
and_first a b h = (and_parts a b h).0

pub and_second : (a b : Bool) → (a && b) ≡ true → b ≡ true
and_second a b h = (and_parts a b h).1

-- ---- which bytes there are

-- where no digit passes a test, no byte of a number does
pub none_of_digits : (p : ℕ → Bool) → ((c : ℕ) → is_ascii_digit c ≡ true → p c ≡ false) → (ds : List ℕ) → all_ascii_digits ds ≡ true → list_any p ds ≡ false
none_of_digits p none [] h = refl
none_of_digits p none (d ∷ ds) h =
    let parts = and_parts (is_ascii_digit d) (all_ascii_digits ds) h in or_from _ _ (none d parts.0) (none_of_digits p none ds parts.1)

-- a text that begins with a number doesn't begin with a dot
pub no_dot_first : (ds rest : List ℕ) → all_ascii_digits ds ≡ true → 0 < length ds → begins_with_dot (ds ++ rest) ≡ false
no_dot_first [] rest h some = absurd (omega arith)
no_dot_first (d ∷ ds) rest h some =
    let digit = and_first (is_ascii_digit d) (all_ascii_digits ds) h in
    grind (arith, nat_tests)

-- ---- where a number ends

-- two texts that begin with digits and go on with the same other byte have the same digits and the same rest
pub same_number : (x : ℕ) → is_ascii_digit x ≡ false → (ds es rs ss : List ℕ) → all_ascii_digits ds ≡ true → all_ascii_digits es ≡ true
    → ds ++ x ∷ rs ≡ es ++ x ∷ ss → (ds ≡ es) × (rs ≡ ss)
same_number x other [] [] rs ss hd he same = (refl, cc)
same_number x other [] (e ∷ es) rs ss hd he same =
    let digit = and_first (is_ascii_digit e) (all_ascii_digits es) he in
    let first : x ≡ e = cc in
    let is = ap is_ascii_digit first in
    cc
same_number x other (d ∷ ds) [] rs ss hd he same =
    let digit = and_first (is_ascii_digit d) (all_ascii_digits ds) hd in
    let first : x ≡ d = cc in
    let is = ap is_ascii_digit first in
    cc
same_number x other (d ∷ ds) (e ∷ es) rs ss hd he same =
    let first : d ≡ e = cc in
    let rest = same_number x other ds es rs ss (and_second (is_ascii_digit d) (all_ascii_digits ds) hd)
    (and_second (is_ascii_digit e) (all_ascii_digits es) he) cc in
    let digits = rest.0 in
    (cc, rest.1)
