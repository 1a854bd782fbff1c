-- Where a header section ends, by the bytes that a text begins with.
use Rattle.std.proofs.Common.{◌≡◌, ◌≢◌, ℕ, ◌<◌, true, List, [], ◌∷◌, ◌++◌, length, get_or, refl, sym, ap, ◌∙◌, arith, cond}
use Rattle.std.proofs.lemmas.Bool.Decides.{nat_tests}
use Rattle.std.proofs.lemmas.Bool.{false≢true}
use Rattle.std.proofs.lemmas.List.Elements.{All-weaker}
use Rattle.std.specs.List.{AllPass, onto_first, take_while}
use Rattle.std.proofs.lemmas.List.Sums.{take_while-cons}
use Rattle.md_head.specs.Header.{is_some_line, is_continuation, lines_of, header_section}
use Rattle.md_head.proofs.Alls.{take_passing}
use Rattle.md_head.proofs.Lines.{step_feed, step_return, step_plain, lines_nil}

pub section_is : (text : List ℕ) → header_section text ≡ take_while is_some_line (lines_of text)
unfolding header_section
section_is text = refl

-- an empty first line
section_empty : (text : List ℕ) (others : List (List ℕ)) → lines_of text ≡ [] ∷ others → header_section text ≡ []
section_empty text others e = section_is text ∙ ap (take_while is_some_line) e ∙ take_while-cons is_some_line [] others

pub over_at_end : (text : List ℕ) → length text ≡ 0 → header_section text ≡ []
over_at_end [] h = section_is [] ∙ ap (take_while is_some_line) lines_nil
over_at_end (b ∷ text) h = absurd (omega arith)

pub over_at_feed : (text : List ℕ) → get_or text 0 0 ≡ 10 → header_section text ≡ []
over_at_feed [] h = absurd (omega arith)
over_at_feed (b ∷ text) h = section_empty (b ∷ text) (lines_of text) (step_feed b text h)

pub over_at_return : (text : List ℕ) → get_or text 0 0 ≡ 13 → get_or text 1 0 ≡ 10 → header_section text ≡ []
over_at_return [] h g = absurd (omega arith)
over_at_return (b ∷ []) h g = absurd (omega arith)
over_at_return (b ∷ c ∷ text) h g = section_empty (b ∷ c ∷ text) (lines_of text) (step_return b (c ∷ text) h g ∙ step_feed c text g)

-- a first line that isn't empty
pub has_bytes : (b : ℕ) (line : List ℕ) → is_some_line (b ∷ line) ≡ true
has_bytes b line = grind (arith, nat_tests)

pub some_first : (b : ℕ) (line : List ℕ) (lines : List (List ℕ)) → take_while is_some_line ((b ∷ line) ∷ lines) ≡ (b ∷ line) ∷ take_while is_some_line lines
some_first b line lines = take_while-cons is_some_line (b ∷ line) lines ∙
    ap (λ t. cond t ((b ∷ line) ∷ take_while is_some_line lines) []) (has_bytes b line)

-- lines that go on have bytes, and are taken whole
continues_some : (line : List ℕ) → is_continuation line ≡ true → is_some_line line ≡ true
continues_some [] h = absurd (false≢true h)
continues_some (b ∷ line) h = has_bytes b line

pub all_have_bytes : (continuations : List (List ℕ)) → AllPass is_continuation continuations → AllPass is_some_line continuations
all_have_bytes = All-weaker (λ l. is_continuation l ≡ true) (λ l. is_some_line l ≡ true) continues_some

pub section_continues : (lines more : List (List ℕ)) → AllPass is_continuation lines
    → take_while is_some_line (lines ++ more) ≡ lines ++ take_while is_some_line more
section_continues lines more h = take_passing is_some_line lines more (all_have_bytes lines h)

onto_goes_on : (b : ℕ) (lines : List (List ℕ)) → take_while is_some_line (onto_first b lines) ≡ [] → ⊥
onto_goes_on b [] e = let some = sym (some_first b [] []) ∙ e in cc
onto_goes_on b (l ∷ ls) e = let some = sym (some_first b l ls) ∙ e in cc

pub goes_on : (text : List ℕ) → 0 < length text → get_or text 0 0 ≢ 10 → (get_or text 0 0 ≡ 13 → 1 < length text → get_or text 1 0 ≢ 10)
    → header_section text ≡ [] → ⊥
goes_on [] h f g e = absurd (omega arith)
goes_on (b ∷ text) h f g e =
    onto_goes_on b (lines_of text) (sym (ap (take_while is_some_line) (step_plain b text f (alone text g))) ∙ sym (section_is (b ∷ text)) ∙ e)
  where
    alone : (text : List ℕ) → (b ≡ 13 → 1 < length (b ∷ text) → get_or text 0 0 ≢ 10) → b ≡ 13 → get_or text 0 0 ≢ 10
    alone [] g is = λ e. omega arith
    alone (c ∷ text) g is = g is (omega arith)

pub some_section : (text : List ℕ) → (header_section text ≡ [] → ⊥) → 0 < length text
some_section [] h = absurd (h (over_at_end [] refl))
some_section (b ∷ text) h = omega arith
