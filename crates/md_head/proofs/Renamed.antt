-- A field whose name is written in another case.
use Rattle.std.proofs.Common.{◌≡◌, ℕ, ◌<◌, Bool, true, false, List, [], ◌∷◌, ◌++◌, length, drop, Option, Some, None, refl, sym, ap, ◌∙◌, arith, ⊎_elim, append_assoc, append-nil, cond}
use Rattle.std.proofs.lemmas.Bool.Decides.{nat_tests}
use Rattle.std.proofs.lemmas.Bool.{cases_Bool}
use Rattle.std.proofs.lemmas.List.Sums.{take_while-cons}
use Rattle.std.proofs.lemmas.Slice.Eq.{bytes_eq-Decides}
use Rattle.std.specs.Char.{to_ascii_lowercase}
use Rattle.std.specs.Str.{str_eq_ignore_ascii_case, str_to_ascii_lowercase, bytes_eq}
use Rattle.std.specs.List.{AllPass, concat, take_while}
use Rattle.std.specs.Option.{option_or}
use Rattle.md_head.specs.Header.{is_blank, is_name_byte, is_some_line, is_continuation, lines_of, IsWholeLines}
use Rattle.md_head.specs.Computed.{Grouped, grouped, field_of, trimmed, value_if, value_of, first_value}
use Rattle.md_head.specs.Summaries.{summary_of}
use Rattle.md_head.proofs.Sections.{has_bytes}
use Rattle.md_head.proofs.Groups.{grouped_on, grouped_new}
use Rattle.md_head.proofs.Firsts.{value_is, first_cons}
use Rattle.md_head.proofs.FieldLines.{field_from}
use Rattle.md_head.proofs.GroupValues.{onto_all, is_inner, lines_onto, all_inner, blank_inner, name_inner, some_front}
use Rattle.md_head.proofs.Appended.{same_summary, value_in_section, section_append}
use Rattle.md_head.proofs.Alls.{pass_head, pass_tail, pass_nil, pass_cons, pass_append}

-- ---- names but for case

same_case : (name other : List ℕ) → str_eq_ignore_ascii_case name other ≡ true → str_to_ascii_lowercase name ≡ str_to_ascii_lowercase other
same_case name other h = (bytes_eq-Decides (str_to_ascii_lowercase name) (str_to_ascii_lowercase other)).0 h

name_byte_case : (a b : ℕ) → to_ascii_lowercase a ≡ to_ascii_lowercase b → is_name_byte a ≡ true → is_name_byte b ≡ true
name_byte_case a b e h = grind (arith, nat_tests)

pub other_name : (name other : List ℕ) → str_to_ascii_lowercase name ≡ str_to_ascii_lowercase other → AllPass is_name_byte name → AllPass is_name_byte other
other_name [] [] e h = h
other_name [] (b ∷ other) e h = let no : [] ≡ to_ascii_lowercase b ∷ str_to_ascii_lowercase other = e in cc
other_name (a ∷ name) [] e h = let no : to_ascii_lowercase a ∷ str_to_ascii_lowercase name ≡ [] = e in cc
other_name (a ∷ name) (b ∷ other) e h =
    let heads : to_ascii_lowercase a ≡ to_ascii_lowercase b = cc in
    let tails : str_to_ascii_lowercase name ≡ str_to_ascii_lowercase other = cc in
    pass_cons is_name_byte b other (name_byte_case a b heads (pass_head is_name_byte a name h)) (other_name name other tails (pass_tail is_name_byte a name h))

some_other : (name other : List ℕ) → str_to_ascii_lowercase name ≡ str_to_ascii_lowercase other → 0 < length name → 0 < length other
some_other [] other e h = absurd (omega arith)
some_other (a ∷ name) [] e h = let no : to_ascii_lowercase a ∷ str_to_ascii_lowercase name ≡ [] = e in cc
some_other (a ∷ name) (b ∷ other) e h = omega arith

-- ---- the first line of a text that begins with a field

abbrev first_or_none : List (List ℕ) → List ℕ
first_or_none [] = []
first_or_none (l ∷ ls) = l

onto_is : (front : List ℕ) (lines : List (List ℕ)) → onto_all front lines ≡ (front ++ first_or_none lines) ∷ drop 1 lines
onto_is front [] = sym (ap (λ t. t ∷ []) (append-nil front))
onto_is front (l ∷ ls) = refl

-- a line of that name, white space and body, which begins no continuation
record NamedLine (name body line : List ℕ) : Type 0 where
  some : List ℕ
  first : ℕ
  is : line ≡ first ∷ some
  begins : is_continuation line ≡ false
  field : field_of line ≡ Some (name, body)

named_line : (name spacing body : List ℕ) → 0 < length name → AllPass is_name_byte name → AllPass is_blank spacing
    → NamedLine name body (name ++ (spacing ++ 58 ∷ body))
named_line [] spacing body h bytes blank = absurd (omega arith)
named_line (b ∷ name) spacing body h bytes blank = record {
  some = name ++ (spacing ++ 58 ∷ body);
  first = b;
  is = refl;
  begins = no_blank b (pass_head is_name_byte b name bytes);
  field = field_from ((b ∷ name) ++ (spacing ++ 58 ∷ body)) (b ∷ name) body
      (record { spacing = spacing; parts = refl; some_name = h; name_bytes = bytes; spacing_blank = blank });
}
  where
    no_blank : (b : ℕ) → is_name_byte b ≡ true → is_blank b ≡ false
    no_blank b h = grind (arith, nat_tests)

-- the lines of a text that begins with a field
record FieldText (name spacing rest : List ℕ) : Type 0 where
  lines : lines_of (name ++ (spacing ++ 58 ∷ rest)) ≡ (name ++ (spacing ++ 58 ∷ first_or_none (lines_of rest))) ∷ drop 1 (lines_of rest)

field_text : (name spacing rest : List ℕ) → 0 < length name → AllPass is_name_byte name → AllPass is_blank spacing → FieldText name spacing rest
field_text name spacing rest h bytes blank =
    let front = name ++ (spacing ++ 58 ∷ []) in
    let split = λ (more : List ℕ). append_assoc name (spacing ++ 58 ∷ []) more ∙ ap (λ t. name ++ t) (append_assoc spacing (58 ∷ []) more) in
    let inner = pass_append is_inner name (spacing ++ 58 ∷ []) (all_inner is_name_byte name name_inner bytes)
    (pass_append is_inner spacing (58 ∷ []) (all_inner is_blank spacing blank_inner blank) (pass_cons is_inner 58 [] refl (pass_nil is_inner))) in
    record {
      lines = ap lines_of (sym (split rest)) ∙ lines_onto front rest (some_front name (spacing ++ 58 ∷ []) h) inner
          ∙ onto_is front (lines_of rest) ∙ ap (λ l. l ∷ drop 1 (lines_of rest)) (split (first_or_none (lines_of rest)));
    }

-- ---- one line in place of another

-- what of grouped lines goes on in front of them: the lines in front of their groups, and the first value of a name
abbrev Facts : Type 0
Facts = List (List ℕ) × Option (List ℕ)

module _ (name : List ℕ) where
  abbrev facts : Grouped → Facts
  facts g = (g.front, first_value name g.groups)

  abbrev next : List ℕ → Facts → Facts
  next line f = cond (is_continuation line) (line ∷ f.0, f.1) ([], option_or (value_of name (record { first = line; continuations = f.0 })) f.1)

  facts_cons : (line : List ℕ) (lines : List (List ℕ)) → facts (grouped (line ∷ lines)) ≡ next line (facts (grouped lines))
  facts_cons line lines = ⊎_elim
      (λ goes_on. ap facts (grouped_on line lines goes_on) ∙ sym (ap (λ b. cond b (line ∷ (grouped lines).front, first_value name (grouped lines).groups) later) goes_on))
      (λ begins.
      ap facts (grouped_new line lines begins)
      ∙ ap (λ (v : Option (List ℕ)). ([], v)) (first_cons name (record { first = line; continuations = (grouped lines).front }) (grouped lines).groups)
      ∙ sym (ap (λ b. cond b (line ∷ (grouped lines).front, first_value name (grouped lines).groups) later) begins))
      (cases_Bool (is_continuation line))
    where
      later : Facts
      later = ([], option_or (value_of name (record { first = line; continuations = (grouped lines).front })) (first_value name (grouped lines).groups))

  -- the same of the lines before the first empty one
  abbrev in_section : List (List ℕ) → Facts
  in_section lines = facts (grouped (take_while is_some_line lines))

  in_section-cons : (line : List ℕ) (lines : List (List ℕ))
      → in_section (line ∷ lines) ≡ cond (is_some_line line) (next line (in_section lines)) (facts (grouped []))
  in_section-cons line lines =
      ap (λ ls. facts (grouped ls)) (take_while-cons is_some_line line lines) ∙ by (is_some_line line)
    where
      by : (b : Bool) → facts (grouped (cond b (line ∷ take_while is_some_line lines) []))
          ≡ cond b (next line (facts (grouped (take_while is_some_line lines)))) (facts (grouped []))
      by true = facts_cons line (take_while is_some_line lines)
      by false = refl

  module _ (found other body line line' : List ℕ) (l : NamedLine found body line) (l' : NamedLine other body line')
      (same : str_eq_ignore_ascii_case found name ≡ str_eq_ignore_ascii_case other name) where
    abbrev named : Facts → List ℕ → Facts
    named f line = ([], option_or (value_of name (record { first = line; continuations = f.0 })) f.1)

    same_value : (continuations : List (List ℕ))
        → value_of name (record { first = line; continuations = continuations }) ≡ value_of name (record { first = line'; continuations = continuations })
    same_value continuations =
        let v = Some (trimmed (body ++ concat continuations)) in
        value_is name (record { first = line; continuations = continuations }) ∙ ap (value_if name continuations) l.field
        ∙ ap (λ b. cond b v None) same
        ∙ sym (ap (value_if name continuations) l'.field) ∙ sym (value_is name (record { first = line'; continuations = continuations }))

    begins : (found line : List ℕ) → NamedLine found body line → (behind : List (List ℕ)) → in_section (line ∷ behind) ≡ named (in_section behind) line
    begins found line l behind =
        in_section-cons line behind
        ∙ ap (λ b. cond b (next line (in_section behind)) (facts (grouped []))) (ap is_some_line l.is ∙ has_bytes l.first l.some)
        ∙ ap (λ b. cond b (line ∷ (in_section behind).0, (in_section behind).1) (named (in_section behind) line)) l.begins

    same_values : (front behind : List (List ℕ)) → in_section (front ++ line ∷ behind) ≡ in_section (front ++ line' ∷ behind)
    same_values [] behind =
        begins found line l behind ∙ ap (λ v. ([], option_or v (in_section behind).1)) (same_value (in_section behind).0)
        ∙ sym (begins other line' l' behind)
    same_values (first ∷ front) behind =
        in_section-cons first (front ++ line ∷ behind)
        ∙ ap (λ f. cond (is_some_line first) (next first f) (facts (grouped []))) (same_values front behind)
        ∙ sym (in_section-cons first (front ++ line' ∷ behind))

pub renamed : (front name other spacing rest : List ℕ) → IsWholeLines front → 0 < length name → AllPass is_name_byte name
    → str_eq_ignore_ascii_case name other ≡ true → AllPass is_blank spacing
    → summary_of (front ++ (name ++ (spacing ++ 58 ∷ rest))) ≡ summary_of (front ++ (other ++ (spacing ++ 58 ∷ rest)))
renamed front name other spacing rest whole some bytes same blank =
    let lower = same_case name other same in
    let bytes' = other_name name other lower bytes in
    let some' = some_other name other lower some in
    let body = first_or_none (lines_of rest) in
    let behind = drop 1 (lines_of rest) in
    let text = name ++ (spacing ++ 58 ∷ rest) in
    let text' = other ++ (spacing ++ 58 ∷ rest) in
    let l = named_line name spacing body some bytes blank in
    let l' = named_line other spacing body some' bytes' blank in
    let section = λ (t line : List ℕ) (lines : lines_of t ≡ line ∷ behind). section_append front t whole ∙
    ap (λ ls. take_while is_some_line (lines_of front ++ ls)) lines in
    let s = section text (name ++ (spacing ++ 58 ∷ body)) (field_text name spacing rest some bytes blank).lines in
    let s' = section text' (other ++ (spacing ++ 58 ∷ body)) (field_text other spacing rest some' bytes' blank).lines in
    same_summary (front ++ text) (front ++ text') (λ wanted.
    let v = same_values wanted name other body (name ++ (spacing ++ 58 ∷ body)) (other ++ (spacing ++ 58 ∷ body)) l l'
    (ap (λ t. bytes_eq t (str_to_ascii_lowercase wanted)) lower) (lines_of front) behind in
    value_in_section wanted (front ++ text) ∙ ap (λ ls. first_value wanted (grouped ls).groups) s
    ∙ ap (λ (f : Facts). f.1) v
    ∙ sym (ap (λ ls. first_value wanted (grouped ls).groups) s') ∙ sym (value_in_section wanted (front ++ text')))
