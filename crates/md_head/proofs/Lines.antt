-- How a text is cut into lines, byte by byte.
use Rattle.std.proofs.Common.{◌≡◌, ◌≢◌, ℕ, suc, ◌-◌, Bool, true, false, List, [], ◌∷◌, length, get_or, take, refl, sym, ap, ◌∙◌, arith, ⊎_elim, cond}
use Rattle.std.proofs.lemmas.Bool.Decides.{nat_tests}
use Rattle.std.proofs.lemmas.Bool.{eqb-true, cases_Bool, cases_eq}
use Rattle.std.proofs.lemmas.List.Splits.{slice_split-cons_yes, slice_split-cons_no}
use Rattle.std.specs.List.{slice_split, onto_first}
use Rattle.std.specs.Str.Lines.{lines_of_parts, strip_carriage_return}
use Rattle.std.specs.Prelude.{nat_eq}
use Rattle.md_head.specs.Header.{lines_of}

abbrev is_feed : ℕ → Bool
is_feed b = nat_eq b 10

abbrev parts : List ℕ → List (List ℕ)
parts bytes = slice_split is_feed bytes

feed_yes : (b : ℕ) → b ≡ 10 → is_feed b ≡ true
feed_yes b e = grind (arith, nat_tests)

feed_no : (b : ℕ) → b ≢ 10 → is_feed b ≡ false
feed_no b e = grind (arith, nat_tests)

-- some lines, or parts
pub record SomeLine (lines : List (List ℕ)) : Type 0 where
  pub first : List ℕ
  pub others : List (List ℕ)
  pub is : lines ≡ first ∷ others

pub onto_some : (b : ℕ) (lines : List (List ℕ)) → SomeLine (onto_first b lines)
onto_some b [] = record { first = b ∷ []; others = []; is = refl }
onto_some b (l ∷ ls) = record { first = b ∷ l; others = ls; is = refl }

some : (bytes : List ℕ) → SomeLine (parts bytes)
some [] = record { first = []; others = []; is = refl }
some (b ∷ bytes) = ⊎_elim
    (λ yes. record { first = []; others = parts bytes; is = slice_split-cons_yes is_feed b bytes yes })
    (λ no.
    let onto = onto_some b (parts bytes) in
    record { first = onto.first; others = onto.others; is = slice_split-cons_no is_feed b bytes no ∙ onto.is })
    (cases_Bool (is_feed b))

-- a line feed first
empty_part : (ps : List (List ℕ)) → SomeLine ps → lines_of_parts ([] ∷ ps) ≡ [] ∷ lines_of_parts ps
empty_part [] s = let no : [] ≡ s.first ∷ s.others = s.is in cc
empty_part (p ∷ ps) s = refl

pub step_feed : (b : ℕ) (bytes : List ℕ) → b ≡ 10 → lines_of (b ∷ bytes) ≡ [] ∷ lines_of bytes
unfolding lines_of
step_feed b bytes e = ap lines_of_parts (slice_split-cons_yes is_feed b bytes (feed_yes b e)) ∙ empty_part (parts bytes) (some bytes)

strip_return : (b : ℕ) → b ≡ 13 → strip_carriage_return (b ∷ []) ≡ []
strip_return b e = grind (arith, nat_tests)

strip_one : (b : ℕ) → b ≢ 13 → strip_carriage_return (b ∷ []) ≡ b ∷ []
strip_one b e = grind (arith, nat_tests)

strip_more : (b c : ℕ) (bytes : List ℕ) → strip_carriage_return (b ∷ c ∷ bytes) ≡ b ∷ strip_carriage_return (c ∷ bytes)
strip_more b c bytes =
    let last : length (b ∷ c ∷ bytes) - 1 ≡ suc (length bytes) = omega arith in
    let last' : length (c ∷ bytes) - 1 ≡ length bytes = omega arith in
    ap (λ n. cond (nat_eq (get_or (b ∷ c ∷ bytes) n 0) 13) (take n (b ∷ c ∷ bytes)) (b ∷ c ∷ bytes)) last
    ∙ onto (nat_eq (get_or (c ∷ bytes) (length bytes) 0) 13) (take (length bytes) (c ∷ bytes)) (c ∷ bytes)
    ∙ sym (ap (λ n. b ∷ cond (nat_eq (get_or (c ∷ bytes) n 0) 13) (take n (c ∷ bytes)) (c ∷ bytes)) last')
  where
    onto : (t : Bool) (x y : List ℕ) → cond t (b ∷ x) (b ∷ y) ≡ b ∷ cond t x y
    onto true x y = refl
    onto false x y = refl

-- a carriage return before a line feed
alone : (b : ℕ) (ps : List (List ℕ)) → SomeLine ps → b ≡ 13 → lines_of_parts ((b ∷ []) ∷ ps) ≡ [] ∷ lines_of_parts ps
alone b [] s e = let no : [] ≡ s.first ∷ s.others = s.is in cc
alone b (p ∷ ps) s e = ap (λ l. l ∷ lines_of_parts (p ∷ ps)) (strip_return b e)

pub step_return : (b : ℕ) (bytes : List ℕ) → b ≡ 13 → get_or bytes 0 0 ≡ 10 → lines_of (b ∷ bytes) ≡ lines_of bytes
unfolding lines_of
step_return b [] e f = absurd (omega arith)
step_return b (c ∷ bytes) e f =
    let yes = slice_split-cons_yes is_feed c bytes (feed_yes c f) in
    let no = slice_split-cons_no is_feed b (c ∷ bytes) (feed_no b (λ g. omega arith)) in
    let part : parts (b ∷ c ∷ bytes) ≡ (b ∷ []) ∷ parts bytes = no ∙ ap (onto_first b) yes in
    ap lines_of_parts part ∙ alone b (parts bytes) (some bytes) e ∙ sym (empty_part (parts bytes) (some bytes)) ∙ sym (ap lines_of_parts yes)

-- an empty part that isn't the last has a line feed behind it
feed_behind : (bytes : List ℕ) (p : List ℕ) (ps : List (List ℕ)) → parts bytes ≡ [] ∷ p ∷ ps → get_or bytes 0 0 ≡ 10
feed_behind [] p ps e = let no : [] ∷ [] ≡ [] ∷ p ∷ ps = e in cc
feed_behind (b ∷ bytes) p ps e = ⊎_elim
    (λ yes. eqb-true b 10 yes)
    (λ no.
    let here = sym (slice_split-cons_no is_feed b bytes no) ∙ e in
    absurd (longer b (parts bytes) p ps here))
    (cases_Bool (is_feed b))
  where
    longer : (b : ℕ) (qs : List (List ℕ)) (p : List ℕ) (ps : List (List ℕ)) → onto_first b qs ≡ [] ∷ p ∷ ps → ⊥
    longer b [] p ps e = cc
    longer b (q ∷ qs) p ps e = cc

sole : (c : ℕ) (first : List ℕ) → lines_of_parts ((c ∷ first) ∷ []) ≡ (c ∷ first) ∷ []
sole c first = grind (arith, nat_tests)

-- any other byte
onto_parts : (b : ℕ) (first : List ℕ) (others : List (List ℕ)) → ((p : List ℕ) (ps : List (List ℕ)) → first ∷ others ≡ [] ∷ p ∷ ps → b ≢ 13)
    → lines_of_parts ((b ∷ first) ∷ others) ≡ onto_first b (lines_of_parts (first ∷ others))
onto_parts b [] [] h = sole b []
onto_parts b (c ∷ first) [] h = sole b (c ∷ first) ∙ sym (ap (onto_first b) (sole c first))
onto_parts b [] (p ∷ ps) h = ap (λ l. l ∷ lines_of_parts (p ∷ ps)) (strip_one b (h p ps refl))
onto_parts b (c ∷ first) (p ∷ ps) h = ap (λ l. l ∷ lines_of_parts (p ∷ ps)) (strip_more b c first)

pub step_plain : (b : ℕ) (bytes : List ℕ) → b ≢ 10 → (b ≡ 13 → get_or bytes 0 0 ≢ 10) → lines_of (b ∷ bytes) ≡ onto_first b (lines_of bytes)
unfolding lines_of
step_plain b bytes e f =
    let s = some bytes in
    let no = slice_split-cons_no is_feed b bytes (feed_no b e) in
    ap lines_of_parts (no ∙ ap (onto_first b) s.is)
    ∙ onto_parts b s.first s.others (λ p ps all is. f is (feed_behind bytes p ps (s.is ∙ all)))
    ∙ ap (λ ps. onto_first b (lines_of_parts ps)) (sym s.is)

pub lines_nil : lines_of [] ≡ []
unfolding lines_of
lines_nil = refl

-- each way that a text's first byte stands to its lines
pub data Step (b : ℕ) (bytes : List ℕ) : Type 0 where
  Feed : b ≡ 10 → lines_of (b ∷ bytes) ≡ [] ∷ lines_of bytes → Step b bytes
  Return : b ≡ 13 → get_or bytes 0 0 ≡ 10 → lines_of (b ∷ bytes) ≡ lines_of bytes → Step b bytes
  Plain : b ≢ 10 → (b ≡ 13 → get_or bytes 0 0 ≢ 10) → lines_of (b ∷ bytes) ≡ onto_first b (lines_of bytes) → Step b bytes

pub step : (b : ℕ) (bytes : List ℕ) → Step b bytes
step b bytes = ⊎_elim
    (λ feed. Feed feed (step_feed b bytes feed))
    (λ no_feed. ⊎_elim
    (λ cr. ⊎_elim
    (λ next. Return cr next (step_return b bytes cr next))
    (λ other. Plain no_feed (λ _. other) (step_plain b bytes no_feed (λ _. other)))
    (cases_eq (get_or bytes 0 0) 10))
    (λ other. Plain no_feed (λ is. absurd (other is)) (step_plain b bytes no_feed (λ is. absurd (other is))))
    (cases_eq b 13))
    (cases_eq b 10)
