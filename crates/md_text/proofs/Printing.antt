-- Bytes written with escapes, from one byte that is escaped to the next.
use Rattle.std.proofs.Common.{◌≡◌, ℕ, ◌+◌, ◌-◌, ◌<◌, ◌≤◌, Bool, true, false, ◌||◌, nat_eq, List, [], ◌∷◌, ◌++◌, length, get_or, take, drop, refl, sym, ap, ◌∙◌, arith, add-one, length-take-le, append_assoc, cond, is_ok, OnOk, Result, Ok, Err}
use mathlib.Core.List.{IsPrefix}
use Rattle.std.proofs.lemmas.Bool.Decides.{nat_tests}
use Rattle.std.proofs.lemmas.List.{take_rest, take-append-drop, get_or-take, get_or-drop, drop-drop}
use Rattle.std.proofs.lemmas.List.Elements.{All-from_get_or, All-head, All-tail}
use Rattle.std.proofs.Math.Seq.{drop-cons}
use Rattle.std.specs.List.{All, list_any}
use Rattle.md_name.proofs.Either.{any-either}
use Rattle.memchr.specs.Find.{Nowhere, NoneBefore, Passes, is_byte3, places_from}
use Rattle.md_text.proofs.Marks.{Next, next_mark, found_in, none_in}
use Rattle.md_text.specs.Escapes.{escape, escape_all}
use Rattle.std.proofs.lemmas.Bool.{false_from_ne_true as refuted}

abbrev Plain : ℕ → Type 0
Plain b = is_byte3 92 10 13 b ≡ false

escape_plain : (b : ℕ) → Plain b → escape b ≡ b ∷ []
escape_plain b plain = grind (arith, nat_tests)

-- bytes that are written as they are, and then one that may not be
plain_front : (front rest : List ℕ) (b : ℕ) → All Plain front → escape_all (front ++ b ∷ rest) ≡ front ++ (escape b ++ escape_all rest)
plain_front [] rest b all = refl
plain_front (c ∷ front) rest b all =
    ap (λ p. p ++ escape_all (front ++ b ∷ rest)) (escape_plain c (All-head Plain c front all)) ∙
    ap (λ xs. c ∷ xs) (plain_front front rest b (All-tail Plain c front all))

plain_all : (text : List ℕ) → All Plain text → escape_all text ≡ text
plain_all [] all = refl
plain_all (c ∷ text) all = ap (λ p. p ++ escape_all text) (escape_plain c (All-head Plain c text all)) ∙
    ap (λ xs. c ∷ xs) (plain_all text (All-tail Plain c text all))

-- ---- whether one of the marks is among bytes

either_mark : (bytes : List ℕ)
    → ((list_any (λ b. nat_eq b 92) bytes || list_any (λ b. nat_eq b 10) bytes) || list_any (λ b. nat_eq b 13) bytes)
    ≡ list_any (is_byte3 92 10 13) bytes
either_mark bytes =
    ap (λ some. some || list_any (λ b. nat_eq b 13) bytes) (any-either (λ b. nat_eq b 92) (λ b. nat_eq b 10) bytes)
    ∙ any-either (λ b. nat_eq b 92 || nat_eq b 10) (λ b. nat_eq b 13) bytes

with_second : (first second third : Bool) → second ≡ true → ((first || second) || third) ≡ true
with_second true second third is = refl
with_second false true third is = refl
with_second false false third is = cc

without_second : (first second third : Bool) → second ≡ false → ((first || second) || third) ≡ (first || third)
without_second true second third is = refl
without_second false true third is = cc
without_second false false third is = refl

pub marked_by_feed : (bytes : List ℕ) → list_any (λ b. nat_eq b 10) bytes ≡ true → list_any (is_byte3 92 10 13) bytes ≡ true
marked_by_feed bytes feed = sym (either_mark bytes) ∙ with_second _ _ _ feed

pub marked_else : (bytes : List ℕ) → list_any (λ b. nat_eq b 10) bytes ≡ false
    → (list_any (λ b. nat_eq b 92) bytes || list_any (λ b. nat_eq b 13) bytes) ≡ list_any (is_byte3 92 10 13) bytes
marked_else bytes none =
    sym (without_second (list_any (λ b. nat_eq b 92) bytes) _ (list_any (λ b. nat_eq b 13) bytes) none) ∙ either_mark bytes

neither : (a b : Bool) → (a || b) ≡ false → (a ≡ false) × (b ≡ false)
neither true b none = cc
neither false b none = (refl, none)

-- bytes without a mark are written as they are
pub unmarked : (text : List ℕ) → list_any (is_byte3 92 10 13) text ≡ false → escape_all text ≡ text
unmarked [] none = refl
unmarked (c ∷ text) none =
    let both = neither (is_byte3 92 10 13 c) (list_any (is_byte3 92 10 13) text) none in
    ap (λ p. p ++ escape_all text) (escape_plain c both.0) ∙ ap (λ xs. c ∷ xs) (unmarked text both.1)

pub escaped_none : (text : List ℕ) → Nowhere (Passes (is_byte3 92 10 13) text) 0 (length text) → escape_all text ≡ text
escaped_none text none = plain_all text (All-from_get_or Plain text 0 (λ i h. refuted _ (none i (omega arith) h)))

pub escaped_at : (text : List ℕ) (at : ℕ) → NoneBefore (Passes (is_byte3 92 10 13) text) 0 (length text) at × Passes (is_byte3 92 10 13) text at
    → escape_all text ≡ take at text ++ (escape (get_or text at 0) ++ escape_all (take (length text - (at + 1)) (drop (at + 1) text)))
escaped_at text at found =
    let high : at < length text = found.0.high in
    let long : length (take at text) ≡ at = length-take-le at text (omega (arith, high)) in
    let all : All Plain (take at text) = All-from_get_or Plain (take at text) 0 (λ i h.
    let low : i < at = omega (arith, long) in ap (is_byte3 92 10 13) (get_or-take at text i 0 low) ∙ refuted _ (found.0.before i (omega arith) low)) in
    let parts : take at text ++ get_or text at 0 ∷ drop (at + 1) text ≡ text =
    rw add-one (ap (λ xs. take at text ++ xs) (sym (drop-cons text at 0 high)) ∙ take-append-drop at text) in
    rw take_rest (ap escape_all (sym parts) ∙ plain_front (take at text) (drop (at + 1) text) (get_or text at 0) all)

-- what was written up to a place of a text, and the marks that are left
pub record SoFar (before text out : List ℕ) (done : ℕ) (marks : List ℕ) : Type 0 where
  pub within : done ≤ length text
  pub left : marks ≡ places_from (is_byte3 92 10 13) text done (length text - done)
  pub written : out ++ escape_all (drop done text) ≡ before ++ escape_all text
  pub kept : IsPrefix before out

module _ (before text out : List ℕ) (done : ℕ) (marks : List ℕ) (so_far : SoFar before text out done marks) where
  -- the next mark
  pub mark_after : (at : ℕ) (rest : List ℕ) → marks ≡ at ∷ rest → Next (is_byte3 92 10 13) text done at rest
  mark_after at rest is = next_mark (is_byte3 92 10 13) text done (length text - done) at rest (omega (arith, so_far.within)) (sym so_far.left ∙ is)

  -- what is left to write goes on behind it
  pub goes_on : (at : ℕ) (rest : List ℕ) → marks ≡ at ∷ rest
      → escape_all (drop done text) ≡ take (at - done) (drop done text) ++ (escape (get_or text at 0) ++ escape_all (drop (at + 1) text))
  goes_on at rest is =
      let next = mark_after at rest is in
      let here : done + (at - done) ≡ at = omega (arith, next.low) in
      let behind : done + (at - done + 1) ≡ at + 1 = omega (arith, next.low) in
      let byte : get_or (drop done text) (at - done) 0 ≡ get_or text at 0 = get_or-drop done text (at - done) 0 ∙ ap (λ k. get_or text k 0) here in
      let others = take_rest (drop done text) (at - done + 1) ∙ drop-drop (at - done + 1) done text ∙ ap (λ k. drop k text) behind in
      escaped_at (drop done text) (at - done) (found_in (is_byte3 92 10 13) text done done at rest next (omega arith) next.low)
      ∙ (λ i. take (at - done) (drop done text) ++ (escape (byte i) ++ escape_all (others i)))

  -- no mark is left
  pub ends_plain : marks ≡ [] → escape_all (drop done text) ≡ drop done text
  ends_plain is =
      escaped_none (drop done text)
      (none_in (is_byte3 92 10 13) text done (length text - done) done (omega (arith, so_far.within)) (sym so_far.left ∙ is) (omega arith) so_far.within)

-- one turn of the loop that writes them
pub turned : (out front here rest text whole : List ℕ) → text ≡ front ++ (here ++ rest) → out ++ text ≡ whole → ((out ++ front) ++ here) ++ rest ≡ whole
turned out front here rest text whole is so_far = simp append_assoc (ap (λ t. out ++ t) (sym is) ∙ so_far)

-- what its last write leaves
pub left_over : {E : Type 0} (r : Result (Unit {0}) E) (items out left whole : List ℕ) → items ≡ cond (is_ok r) (out ++ left) out →
    out ++ left ≡ whole → OnOk r (items ≡ whole)
left_over (Ok done) items out left whole is same = is ∙ same
left_over (Err e) items out left whole is same = tt
