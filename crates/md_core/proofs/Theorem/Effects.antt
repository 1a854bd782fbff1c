-- Effects: whether one is allowed after a history, and which names one leaves nowhere.
use Rattle.std.proofs.Common.{ℕ, ◌≡◌, ◌≢◌, ◌++◌, List, [], ◌∷◌, None, refl, sym, ap, subst, ◌∙◌, inl, inr, length, take, arith}
use Rattle.std.proofs.lemmas.List.{take-append-le, take_all, length_push}
use Rattle.std.proofs.lemmas.Bool.{cases_lt}
use Rattle.std.proofs.lemmas.Cmp.{nat_list_cmp_total}
use Rattle.std.proofs.lemmas.Map.Lookups.{exact_bytes}
use Rattle.std.specs.FinMap as finmap
use Rattle.md_core.proofs.Values.{Place, Change, Effect, unique_of, Names, names_after_change, names_after, IsThere, IsNowhere, WasNowhere}
use Rattle.lists.proofs.Maps.{beside_put, beside_drop, at_drop}
use Rattle.md_jobs.specs.declared.effect.Change.TheVariants as change
use Rattle.md_core.proofs.Mailbox.Changes.{by_name}
use Rattle.md_core.proofs.Mailbox.Allowed.{FitsNames, renamed-beside}

-- a name that is there is not nowhere
there-other : (m : Names) (folder : ℕ) (place : Place) (name u : List ℕ) → IsThere m folder place name → IsNowhere m u → u ≢ unique_of name
there-other m folder place name u there none is = let h : finmap.get m (unique_of name) ≡ None = ap (finmap.get m) (sym is) ∙ none in let at = there.at in cc

-- an effect leaves each name nowhere that was so and is none that its job makes
pub nowhere-kept : (m : Names) (P : List ℕ → Type 0) (c : Change) (u : List ℕ) → FitsNames m P c → (P u → ⊥) → IsNowhere m u →
    IsNowhere (names_after_change m c) u
nowhere-kept m P (change.Add folder place name size) u fits other none = by_name u (unique_of name)
    (λ is. absurd (other (subst P (sym is) fits.1)))
    (λ not. beside_put nat_list_cmp_total exact_bytes m (unique_of name) u _ not ∙ none)
nowhere-kept m P (change.Rename folder place name to_folder to_place to_name) u fits other none =
    renamed-beside m (unique_of name) (unique_of to_name) u _ fits.0 (there-other m folder place name u fits.1 none) ∙ none
nowhere-kept m P (change.Remove folder place name) u fits other none = by_name u (unique_of name)
    (λ is. at_drop nat_list_cmp_total exact_bytes m (unique_of name) u is)
    (λ not. beside_drop nat_list_cmp_total exact_bytes m (unique_of name) u not ∙ none)
nowhere-kept m P change.Same u fits other none = none

-- the names after one more effect, and names that were nowhere before it
pub after-push : (m : Names) (history : List Effect) (e : Effect) → names_after m (history ++ e ∷ []) ≡ names_after_change (names_after m history) e.change
after-push m [] e = refl
after-push m (x ∷ history) e = after-push (names_after_change m x.change) history e

pub now-nowhere : (m : Names) (history : List Effect) (u : List ℕ) → WasNowhere m history u → IsNowhere (names_after m history) u
now-nowhere m history u nowhere =
    subst (λ (es : List Effect). IsNowhere (names_after m es) u) (take_all (length history) history (omega arith)) (nowhere (length history))

pub was_nowhere-push : (m : Names) (history : List Effect) (e : Effect) (u : List ℕ) → WasNowhere m history u →
    IsNowhere (names_after_change (names_after m history) e.change) u → WasNowhere m (history ++ e ∷ []) u
was_nowhere-push m history e u nowhere then k = elim (cases_lt (length history) k) [
  | inl past ↦
      let all : take k (history ++ e ∷ []) ≡ history ++ e ∷ [] = take_all k (history ++ e ∷ []) (let h = length_push history e in omega arith) in
      subst (λ (n : Names). IsNowhere n u) (sym (ap (names_after m) all ∙ after-push m history e)) then
  | inr within ↦ subst (λ (es : List Effect). IsNowhere (names_after m es) u) (sym (take-append-le k history (e ∷ []) within)) (nowhere k)
]
