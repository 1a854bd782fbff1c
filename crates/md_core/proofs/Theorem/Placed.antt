-- The places that an effect leaves a unique name in: none goes back from cur to new.
use Rattle.std.proofs.Common.{◌≡◌, ◌≢◌, ℕ, List, Option, Some, sym, ap, subst, ◌∙◌, inl, inr}
use Rattle.std.proofs.lemmas.Cmp.{nat_list_cmp_total}
use Rattle.std.proofs.lemmas.Map.Lookups.{exact_bytes}
use Rattle.std.specs.FinMap as finmap
use Rattle.md_core.proofs.Values.{Place, Change, unique_of, Tmp, Cur, Listed, Names, names_after_change, IsPlaced}
use Rattle.lists.proofs.Maps.{at_put, beside_put, at_drop, beside_drop}
use Rattle.md_jobs.specs.declared.effect.Change.TheVariants as change
use Rattle.md_core.proofs.Mailbox.Changes.{by_name}
use Rattle.md_core.proofs.Mailbox.Allowed.{FitsNames}

-- An effect leaves a unique name placed so, where cur is such a place, and each place is that may get the name if it is fresh.
module _ (P : Place → Type 0) (cur : P Cur) (m : Names) (IsFresh : List ℕ → Type 0) (u : List ℕ)
    (fresh : (p : Place) → p ≢ Tmp → IsFresh u → P p) where
  placed : (o : Option Listed) (x : Listed) → o ≡ Some x → IsPlaced P o → P x.place
  placed o x is h = subst (IsPlaced P) is h

  -- a name that is taken out is as it was, or nowhere
  dropped : (old : List ℕ) → IsPlaced P (finmap.get m u) → IsPlaced P (finmap.get (finmap.remove m old) u)
  dropped old was = by_name u old
      (λ is. subst (IsPlaced P) (sym (at_drop nat_list_cmp_total exact_bytes m old u is)) tt)
      (λ not. subst (IsPlaced P) (sym (beside_drop nat_list_cmp_total exact_bytes m old u not)) was)

  put-in : (n : Names) (name : List ℕ) (x : Listed) → (u ≡ name → P x.place) → IsPlaced P (finmap.get n u) →
      IsPlaced P (finmap.get (finmap.insert n name x) u)
  put-in n name x there was = by_name u name
      (λ is. subst (IsPlaced P) (sym (at_put nat_list_cmp_total exact_bytes n name u x is)) (there is))
      (λ not. subst (IsPlaced P) (sym (beside_put nat_list_cmp_total exact_bytes n name u x not)) was)

  pub placed-kept : (c : Change) → FitsNames m IsFresh c → IsPlaced P (finmap.get m u) → IsPlaced P (finmap.get (names_after_change m c) u)
  placed-kept (change.Add folder place name size) fits was =
      put-in m (unique_of name) _ (λ is. fresh place fits.0 (subst IsFresh (sym is) fits.1)) was
  placed-kept (change.Rename folder place name to_folder to_place to_name) fits was =
      put-in (finmap.remove m (unique_of name)) (unique_of to_name) _
      (λ is. elim fits.2 [
        | inl to_cur ↦ subst P (sym to_cur) cur
        | inr stays ↦ subst P (sym stays) (placed (finmap.get m u) _ (ap (finmap.get m) (is ∙ fits.0) ∙ fits.1.at) was)
      ])
      (dropped (unique_of name) was)
  placed-kept (change.Remove folder place name) fits was = dropped (unique_of name) was
  placed-kept change.Same fits was = was
