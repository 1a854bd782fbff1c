-- The entries of a finite map: whether one is in a list, and what the list has at its key.
use Rattle.std.proofs.Common.{◌≡◌, ◌⊎◌, inl, inr, List, [], ◌∷◌, Some, None, true, false, cond, T, refl, sym, ap, ◌∙◌}
use Rattle.std.specs.declared.cmp.Ordering.{Ordering}
use Rattle.std.specs.declared.cmp.Ordering.TheVariants.{Less}
use Rattle.std.specs.Ordering.{eq_by_cmp, is_eq, ordering_reverse}
use Rattle.std.specs.Cmp.{Equal-is, IsTotalOrder}
use Rattle.std.specs.FinMap.{FinMap, find, is_sorted, get, get-entries, entries, entries_sorted}
use Rattle.std.specs.FinMap.Entries.{below_all}
use Rattle.std.proofs.lemmas.Cmp.{tied_itself}
use Rattle.std.proofs.lemmas.Map.Lookups.{CmpEqualImpliesEq}
use Rattle.lists.proofs.Booleans.{first, second, both}
use Rattle.lists.proofs.Orders.{less, is_less}

-- an entry is in a list
abbrev pub Has : {X : Type 0} → List X → X → Type 0
Has [] x = ⊥
Has (e ∷ es) x = (x ≡ e) ⊎ Has es x

-- a key that is below all keys of a list is none of them
pub find-above : {K X : Type 0} (R : K → K → Ordering) (q : K) (es : List (K × X)) → T (below_all R q es) → find R q es ≡ None
find-above R q [] h = refl
find-above R q (e ∷ es) h = ap (λ r. cond (is_eq r) (Some e.1) (find R q es)) (less _ (first _ _ h)) ∙ find-above R q es (second _ _ h)

-- a key below one that is below all keys of a list is below them too
pub below-trans : {K X : Type 0} {R : K → K → Ordering} (o : IsTotalOrder R) (p q : K) (es : List (K × X)) → R p q ≡ Less →
    T (below_all R q es) → T (below_all R p es)
below-trans o p q [] is h = tt
below-trans o p q (e ∷ es) is h = both _ _ (is_less _ (o.trans p q e.0 is (less _ (first _ _ h)))) (below-trans o p q es is (second _ _ h))

module _ {K X : Type 0} {R : K → K → Ordering} (o : IsTotalOrder R) (exact : CmpEqualImpliesEq R) where
  above : (x : K × X) (q : K) (es : List (K × X)) → T (below_all R q es) → Has es x → R q x.0 ≡ Less
  above x q [] h has = absurd has
  above x q (e ∷ es) h has = elim has [
    | inl is ↦ ap (λ (y : K × X). R q y.0) is ∙ less _ (first _ _ h)
    | inr later ↦ above x q es (second _ _ h) later
  ]

  has-find : (x : K × X) (es : List (K × X)) → T (is_sorted R es) → Has es x → find R x.0 es ≡ Some x.1
  has-find x [] sorted has = absurd has
  has-find x (e ∷ es) sorted has = elim has [
    | inl is ↦ ap (λ (y : K × X). cond (eq_by_cmp R x.0 y.0) (Some y.1) (find R x.0 es)) (sym is) ∙
        ap (λ r. cond (is_eq r) (Some x.1) (find R x.0 es)) (tied_itself o x.0)
    | inr later ↦
        let apart : eq_by_cmp R x.0 e.0 ≡ false = ap is_eq (o.antisymm x.0 e.0 ∙ ap ordering_reverse (above x e.0 es (first _ _ sorted) later)) in
        ap (λ b. cond b (Some e.1) (find R x.0 es)) apart ∙ has-find x es (second _ _ sorted) later
  ]

  find-has : (k : K) (v : X) (es : List (K × X)) → find R k es ≡ Some v → Has es (k, v)
  find-has k v [] is = cc
  find-has k v (e ∷ es) is =
      elim (eq_by_cmp R k e.0) as (λ b. eq_by_cmp R k e.0 ≡ b → cond b (Some e.1) (find R k es) ≡ Some v → Has (e ∷ es) (k, v)) [
        | true ↦ λ t is. let same = exact k e.0 ((Equal-is _).0 t) in let value : e.1 ≡ v = cc in inl (λ i. (same i, sym value i))
        | false ↦ λ t is. inr (find-has k v es is)
      ] refl is

  -- what a map has at a key is one of its entries
  pub get-has : (m : FinMap R X) (k : K) (v : X) → get m k ≡ Some v → Has (entries m) (k, v)
  get-has m k v is = find-has k v (entries m) (sym (get-entries m k) ∙ is)

  pub has-get : (m : FinMap R X) (x : K × X) → Has (entries m) x → get m x.0 ≡ Some x.1
  has-get m x has = get-entries m x.0 ∙ has-find x (entries m) (entries_sorted m) has
