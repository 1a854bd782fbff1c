-- What was found of no entry, and of all.
use Rattle.std.proofs.Common.{ℕ, ◌≡◌, List, [], ◌∷◌, ◌++◌, Bool, true, false, cond, not, ◌&&◌, ◌||◌, refl, sym, ap, ◌∙◌, subst}
use Rattle.std.proofs.lemmas.List.Folds.{list_any-append}
use Rattle.md_core.proofs.Values.{State, IsSound, Path, unique_of, is_message_name, is_tmp, is_among, list_any, bytes_eq, entries, Seen, IsLookOf, is_message_of, is_tmp_of, entries_before, uses}
use Rattle.md_name.proofs.Either.{either_first}
use Rattle.md_core.proofs.Worlds.Loading.Order.{before-none, before-all}
use Rattle.md_core.proofs.Worlds.Loading.Faults.{or_none}

-- ---- the beginning and the end

pub look-none : (s : State) (seen : Seen) → seen.messages ≡ [] → seen.tmp ≡ [] → seen.clock ≡ 0 → IsLookOf s (entries_before s 0 0) seen
look-none s seen no_message no_tmp none =
    subst (λ es. IsLookOf s es seen) (sym (before-none s))
    (record { messages = λ u. ap (is_among u) no_message; tmp = λ u. ap (is_among u) no_tmp; clock = none; faultless = refl })

pub look-all : (s : State) (folder : ℕ) (seen : Seen) → IsSound s → folder ≡ s.folders → IsLookOf s (entries_before s folder 0) seen → IsLookOf s (entries s.names) seen
look-all s folder seen sound all look = subst (λ es. IsLookOf s es seen) (ap (λ (k : ℕ). entries_before s k 0) all ∙ before-all s sound) look

-- a name is used by a message, or by a file in tmp
pub either_use : (u : List ℕ) (es : List (Path × ℕ)) →
    (list_any (λ e. is_message_of u e.0) es || list_any (λ e. is_tmp_of u e.0) es) ≡ list_any (λ e. uses u e.0) es
either_use u [] = refl
either_use u (e ∷ es) =
    either_first (is_message_of u e.0) (list_any (λ x. is_message_of u x.0) es) (is_tmp_of u e.0) (list_any (λ x. is_tmp_of u x.0) es)
    ∙ (λ i. one e.0 (is_tmp e.0.place) refl i || either_use u es i)
  where
    one : (p : Path) (b : Bool) → is_tmp p.place ≡ b → (is_message_of u p || is_tmp_of u p) ≡ uses u p
    one p b is =
        (λ i. ((not (is i) && is_message_name p.name) && bytes_eq (unique_of p.name) u) || (is i && bytes_eq p.name u))
        ∙ by b ∙ (λ i. cond (sym is i) (bytes_eq p.name u) ((not (sym is i) && is_message_name p.name) && bytes_eq (unique_of p.name) u))
      where
        by : (b : Bool) → (((not b && is_message_name p.name) && bytes_eq (unique_of p.name) u) || (b && bytes_eq p.name u)) ≡ cond b
            (bytes_eq p.name u) ((not b && is_message_name p.name) && bytes_eq (unique_of p.name) u)
        by true = refl
        by false = or_none _

-- the names that were seen are those that are used up
pub used-all : (s : State) (es : List (Path × ℕ)) (seen : Seen) → IsLookOf s es seen → (u : List ℕ) →
    is_among u (seen.messages ++ seen.tmp) ≡ list_any (λ e. uses u e.0) es
used-all s es seen look u = list_any-append _ seen.messages seen.tmp ∙ (λ i. look.messages u i || look.tmp u i) ∙ either_use u es
