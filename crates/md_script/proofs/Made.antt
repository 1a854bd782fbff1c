-- What `unique` comes to, from what makes a name.
use Rattle.std.proofs.Common.{ℕ, ◌≡◌, ◌++◌, List, Option, Some, None, Result, Ok, Err, refl, sym, ap, subst, ◌∙◌}
use Rattle.std.specs.Prelude.{codes}
use Rattle.std.specs.Result.{IsErrAnd}
use Rattle.md_name.specs.declared.error.NameError.{NameError}
use Rattle.md_name.specs.declared.error.NameError.TheVariants as name
use Rattle.md_name.specs.Made.{make_refusal, made_unique, IsRefusal}
use Rattle.md_script.specs.declared.error.PlayKind.{PlayKind}
use Rattle.md_script.specs.declared.error.PlayKind.TheVariants.{Name}
use Rattle.md_script.specs.Kinds.{name_kind}
use Rattle.md_script.specs.Step.{Steps}
use Rattle.md_script.specs.Texts.{line_end}
use Rattle.md_script.specs.Sessions.{Session, printing, made_name, unless_bad}

refused-by : (o : Option NameError) (s : Session) (text printed : List ℕ) (e : NameError) → IsRefusal o e →
    Steps (printing s (unless_bad o printed)) s text text (Err (name_kind e))
refused-by None s text printed e is = λ some. absurd (some (ap name_kind is))
refused-by (Some refusal) s text printed e is =
    subst (λ (x : NameError). Steps {S = Session} (Err (Name refusal)) s text text (Err (name_kind x))) (sym is) (by refusal)
  where
    by : (x : NameError) → Steps {S = Session} (Err (Name x)) s text text (Err (name_kind x))
    by name.NoMemory = λ some. absurd (some refl)
    by other = λ some. (refl, refl)

module _ (s : Session) (sec micro pid count : ℕ) (host : List ℕ) where
  pub name-refused : (text : List ℕ) (e : NameError) (result : Result (Unit {0}) PlayKind) → IsRefusal (make_refusal micro host) e →
      IsErrAnd result (λ kind. kind ≡ name_kind e)
      → Steps (printing s (made_name sec micro pid count host)) s text text result
  unfolding made_name
  name-refused text e (Ok x) is from = absurd from
  name-refused text e (Err kind) is from =
      subst (λ (x : PlayKind). Steps (printing s (made_name sec micro pid count host)) s text text (Err x)) (sym from)
      (refused-by (make_refusal micro host) s text (codes "unique " ++ made_unique sec micro pid count host ++ line_end) e is)

  pub name-made : (text text' made : List ℕ) → make_refusal micro host ≡ None → made ≡ made_unique sec micro pid count host →
      text' ≡ text ++ (codes "unique " ++ made ++ line_end)
      → Steps (printing s (made_name sec micro pid count host)) s text text' (Ok tt)
  unfolding made_name
  name-made text text' made accepted is printed = (
    codes "unique " ++ made ++ line_end,
    ap (λ (o : Option NameError). printing s (unless_bad o (codes "unique " ++ made_unique sec micro pid count host ++ line_end))) accepted
        ∙ ap (λ (name : List ℕ). printing s (Ok (codes "unique " ++ name ++ line_end))) (sym is),
    printed,
  )
