-- The lines of a text that is put together from parts.
use Rattle.std.proofs.Common.{◌≡◌, ℕ, suc, ◌-◌, ◌<◌, List, [], ◌∷◌, ◌++◌, length, get_or, refl, sym, ap, ◌∙◌, arith, length-append}
use Rattle.std.specs.List.{onto_first}
use Rattle.md_head.specs.Header.{lines_of, IsWholeLines}
use Rattle.md_head.proofs.Lines.{SomeLine, onto_some, lines_nil, step, step_feed, step_return, step_plain}
use Rattle.md_head.proofs.Lines.Step.{Feed, Return, Plain}

pub some_line : (bytes : List ℕ) → 0 < length bytes → SomeLine (lines_of bytes)
some_line [] h = absurd (omega arith)
some_line (b ∷ []) h = elim (step b []) [
  | Feed e is ↦ record { first = []; others = lines_of []; is = is }
  | Return e f is ↦ absurd (omega arith)
  | Plain e f is ↦ let onto = onto_some b (lines_of []) in record { first = onto.first; others = onto.others; is = is ∙ onto.is }
]
some_line (b ∷ c ∷ bytes) h = elim (step b (c ∷ bytes)) [
  | Feed e is ↦ record { first = []; others = lines_of (c ∷ bytes); is = is }
  | Return e f is ↦ let rest = some_line (c ∷ bytes) (omega arith) in record { first = rest.first; others = rest.others; is = is ∙ rest.is }
  | Plain e f is ↦ let onto = onto_some b (lines_of (c ∷ bytes)) in record { first = onto.first; others = onto.others; is = is ∙ onto.is }
]

onto_append : (b : ℕ) (lines more : List (List ℕ)) → SomeLine lines → onto_first b (lines ++ more) ≡ onto_first b lines ++ more
onto_append b [] more s = let no : [] ≡ s.first ∷ s.others = s.is in cc
onto_append b (l ∷ ls) more s = refl

first_of_append : (bytes more : List ℕ) (b : ℕ) → get_or (bytes ++ b ∷ []) 0 0 ≡ get_or ((bytes ++ b ∷ []) ++ more) 0 0
first_of_append [] more b = refl
first_of_append (c ∷ bytes) more b = refl

some_length : (bytes : List ℕ) (b : ℕ) → 0 < length (bytes ++ b ∷ [])
some_length [] b = omega arith
some_length (c ∷ bytes) b = omega arith

-- ---- whole lines

whole_more : (b : ℕ) (bytes : List ℕ) → 0 < length bytes → IsWholeLines bytes → IsWholeLines (b ∷ bytes)
whole_more b [] some h = absurd (omega arith)
whole_more b (c ∷ bytes) some h = λ _.
    let last : length (b ∷ c ∷ bytes) - 1 ≡ suc (length (c ∷ bytes) - 1) = omega arith in
    rw last (h (omega arith))

-- any bytes before whole lines
pub whole_behind : (bytes more : List ℕ) → 0 < length more → IsWholeLines more → IsWholeLines (bytes ++ more)
whole_behind [] more some h = h
whole_behind (b ∷ bytes) more some h =
    whole_more b (bytes ++ more) (omega (arith, length-append bytes more)) (whole_behind bytes more some h)

pub whole_feed : (bytes : List ℕ) → IsWholeLines (bytes ++ 10 ∷ [])
whole_feed bytes = whole_behind bytes (10 ∷ []) (omega arith) (λ _. refl)

-- a text that ends with a line feed, and any text behind it
pub lines_append : (bytes more : List ℕ) → lines_of ((bytes ++ 10 ∷ []) ++ more) ≡ lines_of (bytes ++ 10 ∷ []) ++ lines_of more
lines_append [] more = step_feed 10 more refl ∙ sym (ap (λ ls. ls ++ lines_of more) (step_feed 10 [] refl ∙ ap (λ ls. [] ∷ ls) lines_nil))
lines_append (b ∷ bytes) more =
    let ending = bytes ++ 10 ∷ [] in
    let rest = lines_append bytes more in
    let same = first_of_append bytes more 10 in
    elim (step b ending) [
      | Feed e is ↦ step_feed b (ending ++ more) e ∙ ap (λ ls. [] ∷ ls) rest ∙ sym (ap (λ ls. ls ++ lines_of more) is)
      | Return e f is ↦ step_return b (ending ++ more) e (sym same ∙ f) ∙ rest ∙ sym (ap (λ ls. ls ++ lines_of more) is)
      | Plain e f is ↦
          step_plain b (ending ++ more) e (λ g h. f g (same ∙ h)) ∙ ap (onto_first b) rest
          ∙ onto_append b (lines_of ending) (lines_of more) (some_line ending (some_length bytes 10))
          ∙ sym (ap (λ ls. ls ++ lines_of more) is)
    ]

-- bytes with no line end, before a text
