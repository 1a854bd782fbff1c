-- What the loop over groups knows of a name: where its first field stands, and what is still to be read.
use Rattle.std.proofs.Common.{◌≡◌, ℕ, ◌<◌, Bool, true, false, List, [], ◌∷◌, ◌++◌, length, get_or, take, drop, Option, Some, None, refl, sym, ap, ◌∙◌, arith, ⊎_elim, ◌⊎◌, inl, inr, append_assoc, append-nil, take-append-drop, get_or-take, length-take-le, cond}
use Rattle.std.proofs.lemmas.Bool.{and_parts, false≢true}
use Rattle.std.proofs.lemmas.List.Sums.{take_while-cons}
use Rattle.std.specs.Prelude.{◌&&◌, option_map, is_some, IfSome}
use Rattle.std.specs.Str.{str_eq_ignore_ascii_case}
use Rattle.std.specs.List.{AllPass, take_while}
use Rattle.std.specs.Option.{option_or}
use Rattle.md_head.specs.Header.{is_blank, is_some_line, is_continuation, lines_of, header_section, IsWholeLines}
use Rattle.md_head.specs.Computed.{Grouped, grouped, field_of, first_value, field_value}
use Rattle.md_head.specs.Bodies.{body_value, or_this, IsFirstBody, IsFirstField}
use Rattle.md_head.specs.Scan.{EndsGroup}
use Rattle.md_head.specs.declared.body.FieldBody.{FieldBody}
use Rattle.md_head.proofs.Lines.{lines_nil}
use Rattle.md_head.proofs.Texts.{whole_behind}
use Rattle.md_head.proofs.Sections.{section_is, has_bytes, all_have_bytes, over_at_end, some_section}
use Rattle.md_head.proofs.Groups.{grouped_nil}
use Rattle.md_head.proofs.Firsts.{first_nil}
use Rattle.md_head.proofs.FieldLines.{line_from}
use Rattle.md_head.proofs.GroupValues.{value_in, group_value}
use Rattle.md_head.proofs.Steps.{nothing_in_front, value_step, step}
use Rattle.md_head.proofs.Appended.{value_in_section, lines_whole_append, section_append}
use Rattle.md_head.proofs.Earlier.{grouped_append, first_append}
use Rattle.md_head.proofs.Alls.{pass_nil, pass_cons, pass_append, take_passing}

-- ---- the value of a name in whole lines and one group behind them

no_value : (name : List ℕ) → first_value name (grouped []).groups ≡ None
no_value name = ap (λ (g : Grouped). first_value name g.groups) grouped_nil ∙ first_nil name

value_of_nothing : (name text : List ℕ) → header_section text ≡ [] → field_value name text ≡ None
value_of_nothing name text over = value_in_section name text ∙ ap (λ ls. first_value name (grouped ls).groups) over ∙ no_value name

last_none : (v : Option (List ℕ)) → option_or v None ≡ v
last_none None = refl
last_none (Some value) = refl

value_of_one : (name bytes first : List ℕ) (continuations : List (List ℕ)) → lines_of bytes ≡ first ∷ continuations
    → AllPass is_some_line (first ∷ continuations) → AllPass is_continuation continuations → field_value name bytes ≡ value_in name (field_of bytes)
value_of_one name bytes first continuations lines some goes_on =
    let whole = append-nil (first ∷ continuations) in
    let section : header_section bytes ≡ first ∷ (continuations ++ []) =
    section_is bytes ∙ ap (take_while is_some_line) (lines ∙ sym whole) ∙ take_passing is_some_line (first ∷ continuations) [] some in
    value_in_section name bytes ∙ ap (λ ls. first_value name (grouped ls).groups) section
    ∙ value_step name first continuations [] goes_on (ap (λ (g : Grouped). g.front) grouped_nil)
    ∙ ap (option_or _) (no_value name) ∙ last_none _
    ∙ group_value bytes first continuations name lines

value_behind : (name before more : List ℕ) → IsWholeLines before → AllPass is_some_line (lines_of before) → is_blank (get_or more 0 0) ≡ false
    → field_value name (before ++ more) ≡ option_or (field_value name before) (field_value name more)
value_behind name before more whole some begins =
    let front = nothing_in_front more begins in
    let lines = lines_of before in
    let all : header_section (before ++ more) ≡ lines ++ header_section more =
    section_append before more whole ∙ take_passing is_some_line lines (lines_of more) some ∙ sym (ap (λ ls. lines ++ ls) (section_is more)) in
    let own : header_section before ≡ lines =
    section_is before ∙ sym (ap (take_while is_some_line) (append-nil lines)) ∙ take_passing is_some_line lines [] some ∙ append-nil lines in
    value_in_section name (before ++ more) ∙ ap (λ ls. first_value name (grouped ls).groups) all
    ∙ ap (λ (g : Grouped). first_value name g.groups) (grouped_append lines (header_section more) front)
    ∙ first_append name (grouped lines).groups (grouped (header_section more)).groups
    ∙ ap (λ v. option_or v (first_value name (grouped (header_section more)).groups))
    (sym (value_in_section name before ∙ ap (λ ls. first_value name (grouped ls).groups) own))
    ∙ ap (option_or (field_value name before)) (sym (value_in_section name more))

-- ---- what the loop knows of a name

-- where the name's first field stands, if it is among the lines that were read
abbrev pub Stands : List ℕ → List ℕ → List ℕ → Option FieldBody → Type 0
Stands message name before None = field_value name before ≡ None
Stands message name before (Some body) = IsFirstBody message name body.folded.now

-- the lines before what is left, none of which is empty, were read
pub record Read (message left : List ℕ) : Type 0 where
  pub before : List ℕ
  pub parts : message ≡ before ++ left
  pub whole : 0 < length left → IsWholeLines before
  pub some : AllPass is_some_line (lines_of before)
  pub begins : (before ≡ []) ⊎ (is_blank (get_or left 0 0) ≡ false)

pub record Knows (message left name : List ℕ) (found : Option FieldBody) : Type 0 where
  pub lines : Read message left
  pub stands : Stands message name lines.before found
  pub value : option_or (option_map body_value found) (field_value name left) ≡ field_value name message

-- nothing was read
pub knows_nothing : (message name : List ℕ) → Knows message message name None
knows_nothing message name = record {
  lines = record {
    before = [];
    parts = refl;
    whole = λ _ some. absurd (omega arith);
    some = subst_nil;
    begins = inl refl;
  };
  stands = value_of_nothing name [] (over_at_end [] refl);
  value = refl;
}
  where
    subst_nil : AllPass is_some_line (lines_of [])
    subst_nil = rw lines_nil (pass_nil is_some_line)

-- the lines of a group have bytes
group_has_bytes : (left : List ℕ) (n : ℕ) → (header_section left ≡ [] → ⊥) → (ends : EndsGroup left n)
    → AllPass is_some_line (ends.one.first ∷ ends.one.continuations)
group_has_bytes left n not_over ends = go ends.one.first ends.one.all_lines
  where
    go : (first : List ℕ) → lines_of (take n left) ≡ first ∷ ends.one.continuations → AllPass is_some_line (first ∷ ends.one.continuations)
    go [] is =
        let cut = ends.cut ∙ ap (λ ls. ls ++ lines_of (drop n left)) is in
        absurd (not_over (section_is left ∙ ap (take_while is_some_line) cut ∙
        take_while-cons is_some_line [] (ends.one.continuations ++ lines_of (drop n left))))
    go (b ∷ first) is = pass_cons is_some_line (b ∷ first) ends.one.continuations (has_bytes b first) (all_have_bytes ends.one.continuations ends.one.goes_on)

-- one group more was read
read_more : (message left rest : List ℕ) (n : ℕ) → (header_section left ≡ [] → ⊥) → EndsGroup left n → rest ≡ drop n left → Read message left
    → Read message rest
read_more message left rest n not_over ends is r =
    let group = take n left in
    let len : length group ≡ n = length-take-le n left ends.within in
    let all = group_has_bytes left n not_over ends in
    record {
      before = r.before ++ group;
      parts = r.parts ∙ ap (λ t. r.before ++ t) (sym (take-append-drop n left) ∙ ap (λ t. group ++ t) (sym is)) ∙ sym (append_assoc r.before group rest);
      whole = λ some. whole_behind r.before group (omega (arith, ends.some)) (ends.line_ends (omega (arith, ap length is)));
      some = rw (lines_whole_append r.before group (r.whole (some_section left not_over)), ends.one.all_lines)
          (pass_append is_some_line (lines_of r.before) (ends.one.first ∷ ends.one.continuations) r.some all);
      begins = inr (ap (λ t. is_blank (get_or t 0 0)) is ∙ ends.over);
    }

-- and is no field of the name
still_none : (message left name : List ℕ) (n : ℕ) (r : Read message left) → (header_section left ≡ [] → ⊥) → EndsGroup left n → field_value name r.before ≡ None
    → value_in name (field_of (take n left)) ≡ None → field_value name (r.before ++ take n left) ≡ None
still_none message left name n r not_over ends none other =
    let group = take n left in
    let one : field_value name group ≡ None =
    value_of_one name group ends.one.first ends.one.continuations ends.one.all_lines (group_has_bytes left n not_over ends) ends.one.goes_on ∙ other in
    ⊎_elim
    (λ (nothing : r.before ≡ []). ap (λ t. field_value name (t ++ group)) nothing ∙ one)
    (λ (begins : is_blank (get_or left 0 0) ≡ false).
    value_behind name r.before group (r.whole (some_section left not_over)) r.some (ap is_blank (get_or-take n left 0 0 ends.some) ∙ begins)
    ∙ ap (λ v. option_or v (field_value name group)) none ∙ one)
    r.begins

found_more : (found : Option FieldBody) (named : Bool) (body : FieldBody) (later : Option (List ℕ))
    → option_or (option_map body_value (or_this found named body)) later ≡ option_or (option_map body_value found)
    (option_or (cond named (Some (body_value body)) None) later)
found_more (Some found) named body later = refl
found_more None true body later = refl
found_more None false body later = refl

-- a field more
pub knows_field : (message left rest name here : List ℕ) (n : ℕ) (found : Option FieldBody) (body : FieldBody) → (header_section left ≡ [] → ⊥)
    → EndsGroup left n
    → rest ≡ drop n left → Some (here, body.folded.now) ≡ field_of (take n left) → Knows message left name found
    → Knows message rest name (or_this found (str_eq_ignore_ascii_case here name) body)
unfolding read_more
knows_field message left rest name here n found body not_over ends is field k = record {
  lines = read_more message left rest n not_over ends is k.lines;
  stands = go found (str_eq_ignore_ascii_case here name) refl k.stands;
  value = found_more found (str_eq_ignore_ascii_case here name) body (field_value name rest)
      ∙ ap (λ t. option_or (option_map body_value found) (option_or (value_in name (Some (here, body.folded.now))) (field_value name t))) is
      ∙ ap (λ f. option_or (option_map body_value found) (option_or (value_in name f) (field_value name (drop n left)))) field
      ∙ sym (ap (option_or (option_map body_value found)) (step name left n not_over ends))
      ∙ k.value;
}
  where
    go : (found : Option FieldBody) (named : Bool) → str_eq_ignore_ascii_case here name ≡ named → Stands message name k.lines.before found
        → Stands message name (k.lines.before ++ take n left) (or_this found named body)
    go (Some first) named same stands = stands
    go None true same none = record {
      before = k.lines.before;
      field = take n left;
      behind = drop n left;
      parts = k.lines.parts ∙ ap (λ t. k.lines.before ++ t) (sym (take-append-drop n left));
      lines_before = k.lines.whole (some_section left not_over);
      none_empty = k.lines.some;
      is_first = none;
      found = here;
      begins = line_from (take n left) here body.folded.now (sym field);
      same_name = same;
      goes_on = ends.one;
      line_ends = ends.line_ends;
      over = ends.over;
    }
    go None false same none =
        still_none message left name n k.lines not_over ends none
        (sym (ap (value_in name) field) ∙ ap (λ t. cond t (Some (body_value body)) None) same)

-- and what is kept of it
pub knows_kept : (message left rest name here : List ℕ) (n : ℕ) (found kept : Option FieldBody) (body : FieldBody)
    → (header_section left ≡ [] → ⊥) → EndsGroup left n → rest ≡ drop n left → Some (here, body.folded.now) ≡ field_of (take n left)
    → kept ≡ or_this found (str_eq_ignore_ascii_case here name) body → Knows message left name found → Knows message rest name kept
knows_kept message left rest name here n found kept body not_over ends is field kept_is k =
    rw kept_is (knows_field message left rest name here n found body not_over ends is field k)

-- a group more that is no field of the name
pub knows_passed : (message left rest name : List ℕ) (n : ℕ) (found : Option FieldBody) → (header_section left ≡ [] → ⊥) → EndsGroup left n
    → rest ≡ drop n left → value_in name (field_of (take n left)) ≡ None → Knows message left name found → Knows message rest name found
unfolding read_more
knows_passed message left rest name n found not_over ends is other k = record {
  lines = read_more message left rest n not_over ends is k.lines;
  stands = go found k.stands;
  value = ap (λ t. option_or (option_map body_value found) (field_value name t)) is
      ∙ ap (λ v. option_or (option_map body_value found) (option_or v (field_value name (drop n left)))) (sym other)
      ∙ sym (ap (option_or (option_map body_value found)) (step name left n not_over ends))
      ∙ k.value;
}
  where
    go : (found : Option FieldBody) → Stands message name k.lines.before found → Stands message name (k.lines.before ++ take n left) found
    go (Some first) stands = stands
    go None none = still_none message left name n k.lines not_over ends none other

-- and so one that is no field
pub knows_other : (message left rest name : List ℕ) (n : ℕ) (found : Option FieldBody) → (header_section left ≡ [] → ⊥) → EndsGroup left n → rest ≡ drop n left
    → None ≡ field_of (take n left) → Knows message left name found → Knows message rest name found
knows_other message left rest name n found not_over ends is field k =
    knows_passed message left rest name n found not_over ends is (sym (ap (value_in name) field)) k

-- the end of the section
pub knows_all : (message left name : List ℕ) (found : Option FieldBody) → header_section left ≡ [] → Knows message left name found
    → IsFirstField message name found
knows_all message left name found over k = record {
  value = sym (last_none (option_map body_value found)) ∙ sym (ap (option_or (option_map body_value found)) (value_of_nothing name left over)) ∙ k.value;
  place = go found k.stands;
}
  where
    go : (found : Option FieldBody) → Stands message name k.lines.before found → IfSome found (λ body. IsFirstBody message name body.folded.now)
    go None stands = tt
    go (Some body) stands = stands

pub all_four : (a b c d : Bool) → (a && b && c && d) ≡ true → (a ≡ true) × (b ≡ true) × (c ≡ true) × (d ≡ true)
all_four a b c d e =
    let three = and_parts (a && b && c) d e in
    let two = and_parts (a && b) c three.0 in
    let one = and_parts a b two.0 in
    (one.0, one.1, two.1, three.1)

-- the name was found
pub knows_found : (message left name : List ℕ) (found : Option FieldBody) → is_some found ≡ true → Knows message left name found
    → IsFirstField message name found
knows_found message left name None some k = absurd (false≢true some)
knows_found message left name (Some body) some k = record { value = k.value; place = k.stands }
