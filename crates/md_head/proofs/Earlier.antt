-- The first value of a name in a text that follows whole lines.
use Rattle.std.proofs.Common.{◌≡◌, ℕ, false, List, [], ◌∷◌, ◌++◌, get_or, Option, Some, None, refl, sym, ap, ◌∙◌, ⊎_elim, ◌⊎◌, inl, inr}
use Rattle.std.proofs.lemmas.Bool.{cases_Bool, false≢true}
use Rattle.std.proofs.lemmas.List.Sums.{take_while-cons}
use Rattle.std.specs.Prelude.{codes, IsSome}
use Rattle.std.specs.List.{take_while}
use Rattle.std.specs.Option.{option_or}
use Rattle.md_head.specs.Header.{is_blank, is_some_line, is_continuation, lines_of, IsWholeLines, Group}
use Rattle.md_head.specs.Computed.{Grouped, grouped, value_of, first_value, field_value}
use Rattle.md_head.specs.Dates.{seconds_of}
use Rattle.md_head.specs.Summaries.{summary_of}
use Rattle.md_head.specs.Laws.{KeepsValues}
use Rattle.md_head.proofs.Sections.{section_is, some_first}
use Rattle.md_head.proofs.Groups.{made, grouped_nil, grouped_on, grouped_new}
use Rattle.md_head.proofs.Firsts.{first_cons, first_nil}
use Rattle.md_head.proofs.Steps.{nothing_in_front}
use Rattle.md_head.proofs.Appended.{value_in_section, section_append}

-- lines before a line that begins a group
pub grouped_append : (front lines : List (List ℕ)) → (grouped lines).front ≡ []
    → grouped (front ++ lines) ≡ made (grouped front).front ((grouped front).groups ++ (grouped lines).groups)
grouped_append [] lines e = ap (λ ls. made ls (grouped lines).groups) e ∙
    sym (ap (λ (g : Grouped). made g.front (g.groups ++ (grouped lines).groups)) grouped_nil)
grouped_append (line ∷ front) lines e =
    let rest = grouped_append front lines e in
    let behind = (grouped lines).groups in
    ⊎_elim
    (λ goes_on.
    grouped_on line (front ++ lines) goes_on ∙ ap (λ (g : Grouped). made (line ∷ g.front) g.groups) rest
    ∙ sym (ap (λ (g : Grouped). made g.front (g.groups ++ behind)) (grouped_on line front goes_on)))
    (λ begins.
    grouped_new line (front ++ lines) begins
    ∙ ap (λ (g : Grouped). made [] (record { first = line; continuations = g.front } ∷ g.groups)) rest
    ∙ sym (ap (λ (g : Grouped). made g.front (g.groups ++ behind)) (grouped_new line front begins)))
    (cases_Bool (is_continuation line))

pub first_append : (name : List ℕ) (front groups : List Group)
    → first_value name (front ++ groups) ≡ option_or (first_value name front) (first_value name groups)
first_append name [] groups = sym (ap (λ v. option_or v (first_value name groups)) (first_nil name))
first_append name (g ∷ front) groups =
    first_cons name g (front ++ groups) ∙ ap (option_or (value_of name g)) (first_append name front groups)
    ∙ twice (value_of name g) (first_value name front) (first_value name groups)
    ∙ sym (ap (λ v. option_or v (first_value name groups)) (first_cons name g front))
  where
    twice : (u v w : Option (List ℕ)) → option_or u (option_or v w) ≡ option_or (option_or u v) w
    twice None v w = refl
    twice (Some x) v w = refl

-- the section of the first lines alone, or with that of what follows
section_either : (front more : List (List ℕ))
    → (take_while is_some_line (front ++ more) ≡ take_while is_some_line front) ⊎
    (take_while is_some_line (front ++ more) ≡ take_while is_some_line front ++ take_while is_some_line more)
section_either [] more = inr refl
section_either ([] ∷ front) more = inl (take_while-cons is_some_line [] (front ++ more) ∙ sym (take_while-cons is_some_line [] front))
section_either ((b ∷ line) ∷ front) more = ⊎_elim
    (λ e. inl (some_first b line (front ++ more) ∙ ap (λ ls. (b ∷ line) ∷ ls) e ∙ sym (some_first b line front)))
    (λ e. inr (some_first b line (front ++ more) ∙ ap (λ ls. (b ∷ line) ∷ ls) e ∙
    sym (ap (λ ls. ls ++ take_while is_some_line more) (some_first b line front))))
    (section_either front more)

keeps_first : (name header later : List ℕ) → IsWholeLines header → is_blank (get_or later 0 0) ≡ false → IsSome (field_value name header)
    → field_value name (header ++ later) ≡ field_value name header
keeps_first name header later h begins is_there =
    let section = section_append header later h in
    let head = value_in_section name header ∙ ap (λ ls. first_value name (grouped ls).groups) (section_is header) in
    let front : (grouped (take_while is_some_line (lines_of later))).front ≡ [] = ap (λ ls. (grouped ls).front) (sym (section_is later)) ∙
    nothing_in_front later begins in
    value_in_section name (header ++ later) ∙ ap (λ ls. first_value name (grouped ls).groups) section
    ∙ ⊎_elim
    (λ e. ap (λ ls. first_value name (grouped ls).groups) e ∙ sym head)
    (λ e.
    ap (λ ls. first_value name (grouped ls).groups) e
    ∙ ap (λ (g : Grouped). first_value name g.groups)
    (grouped_append (take_while is_some_line (lines_of header)) (take_while is_some_line (lines_of later)) front)
    ∙ first_append name (grouped (take_while is_some_line (lines_of header))).groups (grouped (take_while is_some_line (lines_of later))).groups
    ∙ ap (λ v. option_or v (first_value name (grouped (take_while is_some_line (lines_of later))).groups)) (sym head)
    ∙ wins (field_value name header) (first_value name (grouped (take_while is_some_line (lines_of later))).groups) is_there)
    (section_either (lines_of header) (lines_of later))
  where
    wins : (v later : Option (List ℕ)) → IsSome v → option_or v later ≡ v
    wins None later h = absurd (false≢true h)
    wins (Some x) later h = refl

pub values_kept : (header later : List ℕ) → IsWholeLines header → is_blank (get_or later 0 0) ≡ false
    → KeepsValues (summary_of header) (summary_of (header ++ later))
unfolding summary_of
values_kept header later h begins =
    let keeps = λ (name : List ℕ) (is_there : IsSome (field_value name header)). keeps_first name header later h begins is_there in
    record {
      subject = keeps (codes "subject");
      from = keeps (codes "from");
      message_id = keeps (codes "message-id");
      date = keeps (codes "date");
      seconds = λ is_there. ap seconds_of (keeps (codes "date") is_there);
    }
