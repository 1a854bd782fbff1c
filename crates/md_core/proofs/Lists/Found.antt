-- What is found by its key in a list made of another list.
use Rattle.std.proofs.Common.{◌≡◌, inl, inr, List, [], ◌∷◌, Option, Some, None, true, false, cond, refl, sym, ap, ◌∙◌}
use Rattle.std.specs.declared.cmp.Ordering.{Ordering}
use Rattle.std.specs.Ordering.{eq_by_cmp, is_eq}
use Rattle.std.specs.Cmp.{Equal-is, IsTotalOrder}
use Rattle.md_core.proofs.Values.{filter_map, cons_option, find}
use Rattle.std.proofs.lemmas.Cmp.{tied_itself}
use Rattle.std.proofs.lemmas.Map.Lookups.{CmpEqualImpliesEq}
use Rattle.lists.proofs.Members.{Has}

module _ {A K X : Type 0} {R : K → K → Ordering} (o : IsTotalOrder R) (exact : CmpEqualImpliesEq R) (g : A → Option (K × X)) where
  -- what is found comes of some element
  pub found : (k : K) (v : X) (es : List A) → find R k (filter_map g es) ≡ Some v → (x : A) × Has es x × (g x ≡ Some (k, v))
  found k v [] is = cc
  found k v (x ∷ es) is = at (found k v es) (g x) refl is
    where
      at : (find R k (filter_map g es) ≡ Some v → (y : A) × Has es y × (g y ≡ Some (k, v))) → (m : Option (K × X)) → g x ≡ m →
          find R k (cons_option m (filter_map g es)) ≡ Some v → (y : A) × Has (x ∷ es) y × (g y ≡ Some (k, v))
      at later None made is = let rest = later is in (rest.0, inr rest.1, rest.2)
      at later (Some m) made is =
          elim (eq_by_cmp R k m.0) as (λ b. eq_by_cmp R k m.0 ≡ b → cond b (Some m.1) (find R k (filter_map g es)) ≡ Some v →
          (y : A) × Has (x ∷ es) y × (g y ≡ Some (k, v))) [
            | true ↦ λ t is.
                let key : k ≡ m.0 = exact k m.0 ((Equal-is _).0 t) in
                let value : m.1 ≡ v = cc in
                (x, inl refl, made ∙ (λ i. Some (sym key i, value i)))
            | false ↦ λ t is. let rest = later is in (rest.0, inr rest.1, rest.2)
          ] refl is

  -- where some element has the key, something is found
  pub finds : (k : K) (v : X) (x : A) (es : List A) → Has es x → g x ≡ Some (k, v) → (w : X) × (find R k (filter_map g es) ≡ Some w)
  finds k v x [] has is = absurd has
  finds k v x (e ∷ es) has is = at (λ later. finds k v x es later is) (g e) refl
    where
      at : (Has es x → (w : X) × (find R k (filter_map g es) ≡ Some w)) → (m : Option (K × X)) → g e ≡ m →
          (w : X) × (find R k (cons_option m (filter_map g es)) ≡ Some w)
      at rest None made = elim has [
        | inl here ↦ let h : g e ≡ Some (k, v) = ap g (sym here) ∙ is in cc
        | inr later ↦ rest later
      ]
      at rest (Some m) made =
          elim (eq_by_cmp R k m.0) as (λ b. eq_by_cmp R k m.0 ≡ b → (w : X) × (cond b (Some m.1) (find R k (filter_map g es)) ≡ Some w)) [
            | true ↦ λ t. (m.1, refl)
            | false ↦ λ t. elim has [
              | inl here ↦
                  let h : Some m ≡ Some (k, v) = sym made ∙ ap g (sym here) ∙ is in
                  let key : m.0 ≡ k = ap (λ (y : K × X). y.0) (let e : m ≡ (k, v) = cc in e) in
                  let tie : eq_by_cmp R k m.0 ≡ true = ap (eq_by_cmp R k) key ∙ ap is_eq (tied_itself o k) in
                  cc
              | inr later ↦ rest later
            ]
          ] refl
