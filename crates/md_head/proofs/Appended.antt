-- The summary of a text that follows whole lines.
use Rattle.std.proofs.Common.{◌≡◌, ℕ, zero, suc, ◌+◌, ◌-◌, ◌<◌, List, [], ◌∷◌, ◌++◌, length, take, true, Option, Some, None, refl, sym, ap, ◌∙◌, arith, ⊎_elim, take_all}
use Rattle.std.proofs.lemmas.Bool.{cases_Bool, lt-ltb}
use Rattle.std.proofs.lemmas.List.Elements.{All-weaker}
use Rattle.std.proofs.lemmas.List.{take_more}
use Rattle.std.proofs.lemmas.List.Sums.{take_while-cons}
use Rattle.std.specs.Prelude.{codes, All, Contains, slice_index_or}
use Rattle.std.specs.List.{take_while}
use Rattle.std.specs.Option.{option_or}
use Rattle.md_head.specs.Header.{is_some_line, is_continuation, lines_of, header_section, IsWholeLines}
use Rattle.md_head.specs.Computed.{Grouped, grouped, field_of, value_if, value_of, first_value, field_value}
use Rattle.md_head.specs.Dates.{seconds_of}
use Rattle.md_head.specs.Summaries.{summary_of}
use Rattle.md_head.specs.Laws.{IsPassedOver}
use Rattle.md_head.proofs.Lines.{lines_nil}
use Rattle.md_head.proofs.Texts.{lines_append}
use Rattle.md_head.proofs.Sections.{section_is, some_first}
use Rattle.md_head.proofs.Groups.{grouped_on, grouped_new}
use Rattle.md_head.proofs.Firsts.{value_is, first_cons}
use Rattle.md_head.proofs.FieldLines.{line_from}
use Rattle.md_head.proofs.Steps.{groups_is}
use Rattle.md_head.proofs.Sums.{made_of, summary_is}
use Rattle.md_head.proofs.Alls.{all_head, all_tail, take_passing}

-- texts with the same values have the same summary
pub same_summary : (s t : List ℕ) → ((name : List ℕ) → field_value name s ≡ field_value name t) → summary_of s ≡ summary_of t
same_summary s t same =
    summary_is s ∙ made_of t _ _ _ _ _ (same (codes "subject")) (same (codes "from")) (same (codes "message-id")) (same (codes "date"))
    (ap seconds_of (same (codes "date")))

pub value_in_section : (name text : List ℕ) → field_value name text ≡ first_value name (grouped (header_section text)).groups
value_in_section name text = ap (first_value name) (groups_is text)

pub same_lines : (s t : List ℕ) → lines_of s ≡ lines_of t → summary_of s ≡ summary_of t
same_lines s t same =
    let section : header_section s ≡ header_section t = section_is s ∙ ap (take_while is_some_line) same ∙ sym (section_is t) in
    same_summary s t (λ name. value_in_section name s ∙ ap (λ ls. first_value name (grouped ls).groups) section ∙ sym (value_in_section name t))

pub lines_whole_append : (front more : List ℕ) → IsWholeLines front → lines_of (front ++ more) ≡ lines_of front ++ lines_of more
lines_whole_append [] more h = sym (ap (λ ls. ls ++ lines_of more) lines_nil)
lines_whole_append (b ∷ front) more h =
    let all = b ∷ front in
    let n = length all in
    let one : n ≡ (n - 1) + 1 = omega arith in
    let whole : all ≡ take (n - 1) all ++ 10 ∷ [] =
    sym (take_all n all (omega arith)) ∙ ap (λ k. take k all) one ∙ take_more all (n - 1) 0 (omega arith)
    ∙ ap (λ c. take (n - 1) all ++ c ∷ []) (h (omega arith)) in
    ap (λ t. lines_of (t ++ more)) whole ∙ lines_append (take (n - 1) all) more ∙ sym (ap (λ t. lines_of t ++ lines_of more) whole)

pub section_append : (front more : List ℕ) → IsWholeLines front → header_section (front ++ more) ≡ take_while is_some_line (lines_of front ++ lines_of more)
section_append front more h = section_is (front ++ more) ∙ ap (take_while is_some_line) (lines_whole_append front more h)

-- ---- an empty line among the first

over_before : (lines more : List (List ℕ)) (k : ℕ) → k < length lines → slice_index_or lines k [] ≡ []
    → take_while is_some_line (lines ++ more) ≡ take_while is_some_line lines
over_before [] more k l e = absurd (omega arith)
over_before ([] ∷ lines) more k l e = take_while-cons is_some_line [] (lines ++ more) ∙ sym (take_while-cons is_some_line [] lines)
over_before ((b ∷ line) ∷ lines) more zero l e = let no : b ∷ line ≡ [] = e in cc
over_before ((b ∷ line) ∷ lines) more (suc k) l e =
    some_first b line (lines ++ more) ∙ ap (λ ls. (b ∷ line) ∷ ls) (over_before lines more k (omega arith) e) ∙ sym (some_first b line lines)

pub body_not_read : (header body : List ℕ) → IsWholeLines header → Contains (lines_of header) [] → summary_of (header ++ body) ≡ summary_of header
body_not_read header body h over =
    let same : header_section (header ++ body) ≡ header_section header =
    section_append header body h ∙ over_before (lines_of header) (lines_of body) over.0 over.1 over.2 ∙ sym (section_is header) in
    same_summary (header ++ body) header (λ name.
    value_in_section name (header ++ body) ∙ ap (λ ls. first_value name (grouped ls).groups) same ∙ sym (value_in_section name header))

-- ---- lines that are no fields

no_value : (name line : List ℕ) (continuations : List (List ℕ)) → IsPassedOver line
    → value_of name (record { first = line; continuations = continuations }) ≡ None
no_value name line continuations p = value_is name (record { first = line; continuations = continuations }) ∙ go (field_of line) refl
  where
    go : (f : Option (List ℕ × List ℕ)) → field_of line ≡ f → value_if name continuations (field_of line) ≡ None
    go None is = ap (value_if name continuations) is
    go (Some (found, body)) is = absurd (p.no_field found body (line_from line found body is))

passed_values : (name : List ℕ) (front lines : List (List ℕ)) → All IsPassedOver front
    → first_value name (grouped (front ++ lines)).groups ≡ first_value name (grouped lines).groups
passed_values name [] lines h = refl
passed_values name (line ∷ front) lines h =
    let rest = passed_values name front lines (all_tail IsPassedOver line front h) in
    let behind = grouped (front ++ lines) in
    ⊎_elim
    (λ goes_on. ap (λ (g : Grouped). first_value name g.groups) (grouped_on line (front ++ lines) goes_on) ∙ rest)
    (λ begins.
    ap (λ (g : Grouped). first_value name g.groups) (grouped_new line (front ++ lines) begins)
    ∙ first_cons name (record { first = line; continuations = behind.front }) behind.groups
    ∙ ap (λ v. option_or v (first_value name behind.groups)) (no_value name line behind.front (all_head IsPassedOver line front h))
    ∙ rest)
    (cases_Bool (is_continuation line))

some_line : (line : List ℕ) → IsPassedOver line → is_some_line line ≡ true
some_line line passed = lt-ltb 0 (length line) passed.some

some_passed : (front more : List (List ℕ)) → All IsPassedOver front → take_while is_some_line (front ++ more) ≡ front ++ take_while is_some_line more
some_passed front more h = take_passing is_some_line front more (All-weaker IsPassedOver (λ l. is_some_line l ≡ true) some_line front h)

pub others_passed : (front text : List ℕ) → IsWholeLines front → All IsPassedOver (lines_of front) → summary_of (front ++ text) ≡ summary_of text
others_passed front text h passed =
    let section : header_section (front ++ text) ≡ lines_of front ++ header_section text =
    section_append front text h ∙ some_passed (lines_of front) (lines_of text) passed ∙ sym (ap (λ ls. lines_of front ++ ls) (section_is text)) in
    same_summary (front ++ text) text (λ name.
    value_in_section name (front ++ text) ∙ ap (λ ls. first_value name (grouped ls).groups) section
    ∙ passed_values name (lines_of front) (header_section text) passed ∙ sym (value_in_section name text))
