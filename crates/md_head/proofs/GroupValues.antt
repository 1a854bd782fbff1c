-- The value that the bytes of a group give: those of a line and its continuations, with their line ends.
use Rattle.std.proofs.Common.{◌≡◌, ◌≢◌, ℕ, ◌<◌, Bool, true, List, [], ◌∷◌, ◌++◌, length, Option, Some, None, refl, sym, ap, ◌∙◌, arith, subst, append_assoc, append-nil, cond}
use Rattle.std.proofs.lemmas.Bool.Decides.{nat_tests}
use Rattle.std.proofs.lemmas.List.Elements.{All-weaker}
use Rattle.std.specs.Prelude.{◌||◌, nat_eq}
use Rattle.std.specs.Str.{str_eq_ignore_ascii_case}
use Rattle.std.specs.List.{onto_first, concat, AllPass}
use Rattle.md_head.specs.Header.{is_blank, is_name_byte, lines_of, IsFieldLine}
use Rattle.md_head.specs.Computed.{field_of, trimmed, value_if, value_of}
use Rattle.md_head.specs.Bodies.{unfolded}
use Rattle.md_head.proofs.Lines.{step_plain}
use Rattle.md_head.proofs.Scans.{Front, front_line}
use Rattle.md_head.proofs.Firsts.{value_is}
use Rattle.md_head.proofs.FieldLines.{field_from, line_from}
use Rattle.md_head.proofs.Alls.{pass_head, pass_tail, pass_nil, pass_cons, pass_append, none_no_some}

-- ---- bytes with no line end, before a text

abbrev pub onto_all : List ℕ → List (List ℕ) → List (List ℕ)
onto_all front [] = front ∷ []
onto_all front (l ∷ ls) = (front ++ l) ∷ ls

-- the byte ends no line
abbrev pub is_inner : ℕ → Bool
is_inner b = is_blank b || is_name_byte b || nat_eq b 58

onto_twice : (b c : ℕ) (front : List ℕ) (lines : List (List ℕ)) → onto_first b (onto_all (c ∷ front) lines) ≡ onto_all (b ∷ c ∷ front) lines
onto_twice b c front [] = refl
onto_twice b c front (l ∷ ls) = refl

inner_plain : (b : ℕ) (bytes : List ℕ) → is_inner b ≡ true → lines_of (b ∷ bytes) ≡ onto_first b (lines_of bytes)
inner_plain b bytes h = step_plain b bytes (λ e. no_feed b h e) (λ e. absurd (no_return b h e))
  where
    no_feed : (b : ℕ) → is_inner b ≡ true → b ≢ 10
    no_feed b h e = grind (arith, nat_tests)

    no_return : (b : ℕ) → is_inner b ≡ true → b ≢ 13
    no_return b h e = grind (arith, nat_tests)

onto_one : (b : ℕ) (lines : List (List ℕ)) → onto_first b lines ≡ onto_all (b ∷ []) lines
onto_one b [] = refl
onto_one b (l ∷ ls) = refl

pub lines_onto : (front body : List ℕ) → 0 < length front → AllPass is_inner front → lines_of (front ++ body) ≡ onto_all front (lines_of body)
lines_onto [] body h inner = absurd (omega arith)
lines_onto (b ∷ []) body h inner = inner_plain b body (pass_head is_inner b [] inner) ∙ onto_one b (lines_of body)
lines_onto (b ∷ c ∷ front) body h inner =
    inner_plain b ((c ∷ front) ++ body) (pass_head is_inner b (c ∷ front) inner)
    ∙ ap (onto_first b) (lines_onto (c ∷ front) body (omega arith) (pass_tail is_inner b (c ∷ front) inner))
    ∙ onto_twice b c front (lines_of body)

-- ---- the value that the bytes of a field give

abbrev pub value_in : List ℕ → Option (List ℕ × List ℕ) → Option (List ℕ)
value_in name None = None
value_in name (Some (found, body)) = cond (str_eq_ignore_ascii_case found name) (Some (unfolded body)) None

unfolded_is : (body : List ℕ) → unfolded body ≡ trimmed (concat (lines_of body))
unfolding unfolded
unfolded_is body = refl

pub all_inner : (p : ℕ → Bool) (bytes : List ℕ) → ((b : ℕ) → p b ≡ true → is_inner b ≡ true) → AllPass p bytes → AllPass is_inner bytes
all_inner p bytes each = All-weaker (λ b. p b ≡ true) (λ b. is_inner b ≡ true) each bytes

pub blank_inner : (b : ℕ) → is_blank b ≡ true → is_inner b ≡ true
blank_inner b h = grind (arith, nat_tests)

pub name_inner : (b : ℕ) → is_name_byte b ≡ true → is_inner b ≡ true
name_inner b h = grind (arith, nat_tests)

-- a field line, with more behind its body
longer : (line name body more : List ℕ) → IsFieldLine line name body → IsFieldLine (line ++ more) name (body ++ more)
longer line name body more f = record {
  spacing = f.spacing;
  parts = ap (λ t. t ++ more) f.parts ∙ append_assoc name (f.spacing ++ 58 ∷ body) more ∙ ap (λ t. name ++ t) (append_assoc f.spacing (58 ∷ body) more);
  some_name = f.some_name;
  name_bytes = f.name_bytes;
  spacing_blank = f.spacing_blank;
}

pub some_front : (name rest : List ℕ) → 0 < length name → 0 < length (name ++ rest)
some_front [] rest h = absurd (omega arith)
some_front (b ∷ name) rest h = omega arith

-- the group's field, where its bytes begin with one
group_field : (bytes first : List ℕ) (continuations : List (List ℕ)) (name found body : List ℕ) → lines_of bytes ≡ first ∷ continuations
    → IsFieldLine bytes found body
    → value_of name (record { first = first; continuations = continuations }) ≡ value_in name (Some (found, body))
group_field bytes first continuations name found body e f = go (lines_of body) refl (sym all ∙ e)
  where
    front : List ℕ
    front = found ++ (f.spacing ++ 58 ∷ [])

    split : (rest : List ℕ) → front ++ rest ≡ found ++ (f.spacing ++ 58 ∷ rest)
    split rest = append_assoc found (f.spacing ++ 58 ∷ []) rest ∙ ap (λ t. found ++ t) (append_assoc f.spacing (58 ∷ []) rest)

    inner : AllPass is_inner front
    inner = pass_append is_inner found (f.spacing ++ 58 ∷ []) (all_inner is_name_byte found name_inner f.name_bytes)
        (pass_append is_inner f.spacing (58 ∷ []) (all_inner is_blank f.spacing blank_inner f.spacing_blank)
        (pass_cons is_inner 58 [] refl (pass_nil is_inner)))

    all : lines_of bytes ≡ onto_all front (lines_of body)
    all = ap lines_of (f.parts ∙ sym (split body)) ∙ lines_onto front body (some_front found (f.spacing ++ 58 ∷ []) f.some_name) inner

    -- the first line is a field line of the same name
    is_line : (b : List ℕ) → IsFieldLine (front ++ b) found b
    is_line b = record { spacing = f.spacing; parts = split b; some_name = f.some_name; name_bytes = f.name_bytes; spacing_blank = f.spacing_blank }

    value_at : (b : List ℕ) (others : List (List ℕ)) (lines : List (List ℕ)) → lines_of body ≡ lines → front ++ b ≡ first → others ≡ continuations
        → b ++ concat others ≡ concat lines
        → value_of name (record { first = first; continuations = continuations }) ≡ value_in name (Some (found, body))
    value_at b others lines is at_first at_others joins =
        value_is name (record { first = first; continuations = continuations })
        ∙ ap (λ l. value_if name continuations (field_of l)) (sym at_first)
        ∙ ap (value_if name continuations) (field_from (front ++ b) found b (is_line b))
        ∙ ap (λ ls. cond (str_eq_ignore_ascii_case found name) (Some (trimmed (b ++ concat ls))) None) (sym at_others)
        ∙ ap (λ v. cond (str_eq_ignore_ascii_case found name) (Some (trimmed v)) None) (joins ∙ ap concat (sym is))
        ∙ ap (λ v. cond (str_eq_ignore_ascii_case found name) (Some v) None) (sym (unfolded_is body))

    go : (lines : List (List ℕ)) → lines_of body ≡ lines → onto_all front lines ≡ first ∷ continuations
        → value_of name (record { first = first; continuations = continuations }) ≡ value_in name (Some (found, body))
    go [] is e =
        let at_first : front ≡ first = cc in
        let at_others : [] ≡ continuations = cc in
        value_at [] [] [] is (append-nil front ∙ at_first) at_others refl
    go (l ∷ ls) is e =
        let at_first : front ++ l ≡ first = cc in
        let at_others : ls ≡ continuations = cc in
        value_at l ls (l ∷ ls) is at_first at_others refl

-- and no field, where they begin with none
group_none : (bytes first : List ℕ) (continuations : List (List ℕ)) (name : List ℕ) → lines_of bytes ≡ first ∷ continuations → field_of bytes ≡ None
    → value_of name (record { first = first; continuations = continuations }) ≡ None
group_none bytes first continuations name e none =
    value_is name (record { first = first; continuations = continuations }) ∙ ap (value_if name continuations) (go (field_of first) refl)
  where
    go : (f : Option (List ℕ × List ℕ)) → field_of first ≡ f → f ≡ None
    go None is = refl
    go (Some (found, body)) is =
        let at : Front bytes first = front_line bytes first continuations e in
        let whole : IsFieldLine bytes found (body ++ at.behind) =
        subst (λ t. IsFieldLine t found (body ++ at.behind)) (sym at.is) (longer first found body at.behind (line_from first found body is)) in
        absurd (none_no_some (field_of bytes) none (field_from bytes found (body ++ at.behind) whole))

pub group_value : (bytes first : List ℕ) (continuations : List (List ℕ)) (name : List ℕ) → lines_of bytes ≡ first ∷ continuations
    → value_of name (record { first = first; continuations = continuations }) ≡ value_in name (field_of bytes)
group_value bytes first continuations name e = go (field_of bytes) refl
  where
    go : (f : Option (List ℕ × List ℕ)) → field_of bytes ≡ f → value_of name (record { first = first; continuations = continuations }) ≡ value_in name f
    go None is = group_none bytes first continuations name e is
    go (Some (found, body)) is = group_field bytes first continuations name found body e (line_from bytes found body is)
