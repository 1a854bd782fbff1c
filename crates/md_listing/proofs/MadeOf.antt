-- Members of a list that was made of another, and of one that was filtered.
use Rattle.std.proofs.Common.{◌≡◌, inl, inr, List, [], ◌∷◌, Option, Some, None, Bool, true, false, cond, map, filter, refl, sym, ap, subst, ◌∙◌}
use Rattle.std.specs.List.{filter_map, cons_option}
use Rattle.lists.proofs.Members.{Has}

pub filter_map-map : {A B C : Type 0} (f : A → B) (g : B → Option C) (xs : List A) → filter_map g (map f xs) ≡ filter_map (λ x. g (f x)) xs
filter_map-map f g [] = refl
filter_map-map f g (x ∷ xs) = ap (cons_option (g (f x))) (filter_map-map f g xs)

module _ {A C : Type 0} (q : A → Bool) (h : A → Option C) where
  abbrev pub Came : List A → C → Type 0
  Came es y = (x : A) × Has es x × (q x ≡ true) × (h x ≡ Some y)

  later : (e : A) (es : List A) (y : C) → Came es y → Came (e ∷ es) y
  later e es y some = (some.0, inr some.1, some.2, some.3)

  pub came : (es : List A) (y : C) → Has (filter_map h (filter q es)) y → Came es y
  came [] y has = absurd has
  came (e ∷ es) y has =
      elim (q e) as (λ b. q e ≡ b → Has (filter_map h (cond b (e ∷ filter q es) (filter q es))) y → Came (e ∷ es) y) [
        | false ↦ λ t has. later e es y (came es y has)
        | true ↦ λ t has. elim (h e) as (λ o. h e ≡ o → Has (cons_option o (filter_map h (filter q es))) y → Came (e ∷ es) y) [
          | None ↦ λ made has. later e es y (came es y has)
          | Some z ↦ λ made has. elim has [
            | inl is ↦ (e, inl refl, t, made ∙ ap Some (sym is))
            | inr rest ↦ later e es y (came es y rest)
          ]
        ] refl has
      ] refl has

  kept : (e : A) (es : List A) (y : C) → Has (filter_map h (filter q es)) y → Has (filter_map h (filter q (e ∷ es))) y
  kept e es y has =
      elim (q e) as (λ b. Has (filter_map h (cond b (e ∷ filter q es) (filter q es))) y) [
        | false ↦ has
        | true ↦ elim (h e) as (λ o. Has (cons_option o (filter_map h (filter q es))) y) [ None ↦ has | Some z ↦ inr has ]
      ]

  pub goes : (es : List A) (x : A) (y : C) → Has es x → q x ≡ true → h x ≡ Some y → Has (filter_map h (filter q es)) y
  goes [] x y has passes made = absurd has
  goes (e ∷ es) x y has passes made = elim has [
    | inl is ↦
        subst (λ b. Has (filter_map h (cond b (e ∷ filter q es) (filter q es))) y) (sym (ap q (sym is) ∙ passes))
        (subst (λ o. Has (cons_option o (filter_map h (filter q es))) y) (sym (ap h (sym is) ∙ made)) (inl refl))
    | inr rest ↦ kept e es y (goes es x y rest passes made)
  ]
