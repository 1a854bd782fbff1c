-- The first value of a name: the function and the relation agree.
use Rattle.std.proofs.Common.{◌≡◌, ℕ, Bool, true, false, List, [], ◌∷◌, ◌++◌, Option, Some, None, refl, sym, ap, ◌∙◌, subst, cond}
use Rattle.std.specs.Prelude.{All}
use Rattle.std.specs.List.{concat}
use Rattle.std.specs.Str.{str_eq_ignore_ascii_case}
use Rattle.std.proofs.lemmas.List.Elements.{All-cons, All-nil}
use Rattle.std.specs.Option.{option_or}
use Rattle.md_head.specs.Header.{Group}
use Rattle.md_head.specs.Values.{IsTrimmed, IsField, IsOther, IsFirstValue}
use Rattle.md_head.specs.Computed.{field_of, trimmed, value_if, value_of, first_value}
use Rattle.md_head.proofs.Alls.{all_head, all_tail, none_no_some}
use Rattle.md_head.proofs.Trims.{trimmed_is, trimmed_only}
use Rattle.md_head.proofs.FieldLines.{field_from, line_from}

pub value_is : (name : List ℕ) (g : Group) → value_of name g ≡ value_if name g.continuations (field_of g.first)
unfolding value_of
value_is name g = refl

pub value_from : (g : Group) (name value : List ℕ) → IsField g name value → value_of name g ≡ Some value
value_from g name value f =
    value_is name g
    ∙ ap (value_if name g.continuations) (field_from g.first f.found f.body f.field_line)
    ∙ ap (λ b. cond b (Some (trimmed (f.body ++ concat g.continuations))) None) f.same_name
    ∙ ap Some (trimmed_only (f.body ++ concat g.continuations) value f.trimmed)

pub field_found : (g : Group) (name value : List ℕ) → value_of name g ≡ Some value → IsField g name value
field_found g name value e = go (field_of g.first) refl (sym (value_is name g) ∙ e)
  where
    named : (found body : List ℕ) (b : Bool) → str_eq_ignore_ascii_case found name ≡ b → field_of g.first ≡ Some (found, body)
        → cond {A = Option (List ℕ)} b (Some (trimmed (body ++ concat g.continuations))) None ≡ Some value → IsField g name value
    named found body true same is e =
        let all : trimmed (body ++ concat g.continuations) ≡ value = cc in
        record {
          found = found;
          body = body;
          field_line = line_from g.first found body is;
          same_name = same;
          trimmed = subst (IsTrimmed (body ++ concat g.continuations)) all (trimmed_is (body ++ concat g.continuations));
        }
    named found body false same is e = absurd (none_no_some None refl e)

    go : (f : Option (List ℕ × List ℕ)) → field_of g.first ≡ f → value_if name g.continuations f ≡ Some value → IsField g name value
    go None is e = absurd (none_no_some None refl e)
    go (Some (found, body)) is e = named found body (str_eq_ignore_ascii_case found name) refl is e

pub other_from : (g : Group) (name : List ℕ) → IsOther name g → value_of name g ≡ None
other_from g name h = go (value_of name g) refl
  where
    go : (v : Option (List ℕ)) → value_of name g ≡ v → v ≡ None
    go None e = refl
    go (Some value) e = absurd (h value (field_found g name value e))

pub other_found : (g : Group) (name : List ℕ) → value_of name g ≡ None → IsOther name g
other_found g name e value f = none_no_some (value_of name g) e (value_from g name value f)

pub first_cons : (name : List ℕ) (g : Group) (groups : List Group) → first_value name (g ∷ groups) ≡ option_or (value_of name g) (first_value name groups)
unfolding first_value
first_cons name g groups = refl

pub first_nil : (name : List ℕ) → first_value name [] ≡ None
unfolding first_value
first_nil name = refl

none_first : (name : List ℕ) (groups : List Group) → All (IsOther name) groups → first_value name groups ≡ None
none_first name [] h = first_nil name
none_first name (g ∷ groups) h =
    first_cons name g groups ∙ ap (λ v. option_or v (first_value name groups)) (other_from g name (all_head (IsOther name) g groups h))
    ∙ none_first name groups (all_tail (IsOther name) g groups h)

some_first : (name value : List ℕ) (before : List Group) (g : Group) (behind : List Group) → All (IsOther name) before → IsField g name value
    → first_value name (before ++ g ∷ behind) ≡ Some value
some_first name value [] g behind h f = first_cons name g behind ∙ ap (λ v. option_or v (first_value name behind)) (value_from g name value f)
some_first name value (other ∷ before) g behind h f =
    first_cons name other (before ++ g ∷ behind)
    ∙ ap (λ v. option_or v (first_value name (before ++ g ∷ behind))) (other_from other name (all_head (IsOther name) other before h))
    ∙ some_first name value before g behind (all_tail (IsOther name) other before h) f

-- there is one first value
pub first_only : (groups : List Group) (name : List ℕ) (v : Option (List ℕ)) → IsFirstValue groups name v → first_value name groups ≡ v
first_only groups name None h = none_first name groups h
first_only groups name (Some value) h = ap (first_value name) h.3 ∙ some_first name value h.0 h.1 h.2 h.4 h.5

-- and the function finds it
pub first_is : (groups : List Group) (name : List ℕ) → IsFirstValue groups name (first_value name groups)
first_is [] name = subst (IsFirstValue [] name) (sym (first_nil name)) (All-nil (IsOther name))
first_is (g ∷ groups) name = subst (IsFirstValue (g ∷ groups) name) (sym (first_cons name g groups)) (here (value_of name g) refl (first_is groups name))
  where
    behind_other : value_of name g ≡ None → (v : Option (List ℕ)) → IsFirstValue groups name v → IsFirstValue (g ∷ groups) name v
    behind_other e None h = All-cons (IsOther name) g groups (other_found g name e) h
    behind_other e (Some value) h = (g ∷ h.0, h.1, h.2, ap (λ gs. g ∷ gs) h.3, All-cons (IsOther name) g h.0 (other_found g name e) h.4, h.5)

    here : (v : Option (List ℕ)) → value_of name g ≡ v → IsFirstValue groups name (first_value name groups)
        → IsFirstValue (g ∷ groups) name (option_or v (first_value name groups))
    here None e rest = behind_other e (first_value name groups) rest
    here (Some value) e rest = ([], g, groups, refl, All-nil (IsOther name), field_found g name value e)
