-- One group more of a header section.
use Rattle.std.proofs.Common.{◌≡◌, ℕ, true, false, List, [], ◌∷◌, ◌++◌, get_or, take, drop, None, refl, sym, ap, ◌∙◌, ⊎_elim, append-nil}
use Rattle.std.proofs.lemmas.Bool.{cases_Bool}
use Rattle.std.proofs.lemmas.List.Sums.{take_while-cons}
use Rattle.std.specs.List.{AllPass, take_while}
use Rattle.std.specs.Option.{option_or}
use Rattle.md_head.specs.Header.{is_blank, is_some_line, is_continuation, lines_of, header_section}
use Rattle.md_head.specs.Computed.{Grouped, grouped, groups_of, field_of, value_if, value_of, first_value, field_value}
use Rattle.md_head.specs.Scan.{EndsGroup}
use Rattle.md_head.proofs.Scans.{first_continues}
use Rattle.md_head.proofs.Sections.{section_is, section_continues, some_first}
use Rattle.md_head.proofs.Groups.{grouped_nil, grouped_new, grouped_all, grouped_group}
use Rattle.md_head.proofs.Firsts.{value_is, first_cons}
use Rattle.md_head.proofs.FieldLines.{no_field}
use Rattle.md_head.proofs.GroupValues.{value_in, group_value}
use Rattle.md_head.proofs.Alls.{pass_cons}

pub groups_is : (text : List ℕ) → groups_of text ≡ (grouped (header_section text)).groups
unfolding groups_of
groups_is text = refl

-- the section of a text that begins with some lines, of which the first isn't empty
section_group : (text rest first : List ℕ) (continuations : List (List ℕ)) → lines_of text ≡ (first ∷ continuations) ++ lines_of rest
    → (header_section text ≡ [] → ⊥) → AllPass is_continuation continuations → header_section text ≡ first ∷ (continuations ++ header_section rest)
section_group text rest [] continuations cut some h =
    absurd (some (section_is text ∙ ap (take_while is_some_line) cut ∙ take_while-cons is_some_line [] (continuations ++ lines_of rest)))
section_group text rest (b ∷ first) continuations cut some h =
    section_is text ∙ ap (take_while is_some_line) cut ∙ some_first b first (continuations ++ lines_of rest)
    ∙ ap (λ ls. (b ∷ first) ∷ ls) (section_continues continuations (lines_of rest) h ∙ sym (ap (λ ls. continuations ++ ls) (section_is rest)))

-- a section that begins with no continuation has nothing in front of its groups
pub nothing_in_front : (rest : List ℕ) → is_blank (get_or rest 0 0) ≡ false → (grouped (header_section rest)).front ≡ []
nothing_in_front rest over = ap (λ ls. (grouped ls).front) (section_is rest) ∙ go (lines_of rest) refl
  where
    none : (lines : List (List ℕ)) → lines ≡ [] → (grouped lines).front ≡ []
    none lines e = ap (λ ls. (grouped ls).front) e ∙ ap (λ (g : Grouped). g.front) grouped_nil

    go : (lines : List (List ℕ)) → lines_of rest ≡ lines → (grouped (take_while is_some_line lines)).front ≡ []
    go [] is = none [] refl
    go ([] ∷ lines) is = none (take_while is_some_line ([] ∷ lines)) (take_while-cons is_some_line [] lines)
    go ((b ∷ line) ∷ lines) is =
        ap (λ ls. (grouped ls).front) (some_first b line lines)
        ∙ ap (λ (g : Grouped). g.front) (grouped_new (b ∷ line) (take_while is_some_line lines) (first_continues rest (b ∷ line) lines is ∙ over))

-- the groups of a section that begins with one, or with continuations of nothing
pub value_step : (name first : List ℕ) (continuations lines : List (List ℕ)) → AllPass is_continuation continuations → (grouped lines).front ≡ []
    → first_value name (grouped (first ∷ (continuations ++ lines))).groups
    ≡ option_or (value_of name (record { first = first; continuations = continuations })) (first_value name (grouped lines).groups)
value_step name first continuations lines h front =
    ⊎_elim
    (λ goes_on.
    ap (λ (g : Grouped). first_value name g.groups) (grouped_all (first ∷ continuations) lines (pass_cons is_continuation first continuations goes_on h))
    ∙ sym (ap (λ v. option_or v (first_value name (grouped lines).groups)) (no_value goes_on)))
    (λ begins.
    ap (λ (g : Grouped). first_value name g.groups) (grouped_group first continuations lines begins h)
    ∙ ap (λ (ls : List (List ℕ)). first_value name (record { first = first; continuations = ls } ∷ (grouped lines).groups))
    (ap (λ ls. continuations ++ ls) front ∙ append-nil continuations)
    ∙ first_cons name (record { first = first; continuations = continuations }) (grouped lines).groups)
    (cases_Bool (is_continuation first))
  where
    no_value : is_continuation first ≡ true → value_of name (record { first = first; continuations = continuations }) ≡ None
    no_value goes_on = value_is name (record { first = first; continuations = continuations }) ∙ ap (value_if name continuations) (no_field first goes_on)

-- the first value of a name, by the bytes of the first group
pub step : (name text : List ℕ) (n : ℕ) → (header_section text ≡ [] → ⊥) → EndsGroup text n
    → field_value name text ≡ option_or (value_in name (field_of (take n text))) (field_value name (drop n text))
step name text n some ends =
    let one = ends.one in
    let rest = drop n text in
    let cut = ends.cut ∙ ap (λ ls. ls ++ lines_of rest) one.all_lines in
    let front = nothing_in_front rest ends.over in
    ap (first_value name) (groups_is text)
    ∙ ap (λ ls. first_value name (grouped ls).groups) (section_group text rest one.first one.continuations cut some one.goes_on)
    ∙ value_step name one.first one.continuations (header_section rest) one.goes_on front
    ∙ ap (λ v. option_or v (first_value name (grouped (header_section rest)).groups)) (group_value (take n text) one.first one.continuations name one.all_lines)
    ∙ sym (ap (λ gs. option_or (value_in name (field_of (take n text))) (first_value name gs)) (groups_is rest))
