-- Lists that get one more element.
use Rattle.std.proofs.Common.{ℕ, zero, suc, ◌≡◌, ◌<◌, ◌⊎◌, inl, inr, List, [], ◌++◌, ◌∷◌, Some, length, slice_get, refl, sym, ap, subst, ◌∙◌, arith}
pub use Rattle.lists.proofs.Pushed.{last-is, stays}

-- an element that was there is there in a longer list
pub same-step : {A : Type 0} (xs : List A) (y : A) (j : ℕ) → j < length xs → slice_get xs j ≡ slice_get (xs ++ y ∷ []) j
same-step [] y j low = absurd (omega (arith, low))
same-step (x ∷ xs) y zero low = refl
same-step (x ∷ xs) y (suc j) low = same-step xs y j (omega (arith, low))

-- an element of a list with one more is one of the list, or the last
pub one-more : {A : Type 0} (xs : List A) (y : A) (i : ℕ) (x : A) → slice_get (xs ++ y ∷ []) i ≡ Some x
    → (slice_get xs i ≡ Some x) ⊎ ((i ≡ length xs) × (y ≡ x))
one-more [] y zero x is = inr (refl, cc is)
one-more [] y (suc i) x is = absurd (cc is)
one-more (z ∷ xs) y zero x is = inl is
one-more (z ∷ xs) y (suc i) x is = elim (one-more xs y i x is) [ inl was ↦ inl was | inr last ↦ inr (ap suc last.0, last.1) ]

-- what stands at a place within a list
pub stands-at : {A : Type 0} (xs : List A) (k : ℕ) → k < length xs → (x : A) × (slice_get xs k ≡ Some x)
stands-at [] k low = absurd (omega (arith, low))
stands-at (x ∷ xs) zero low = (x, refl)
stands-at (x ∷ xs) (suc k) low = stands-at xs k (omega (arith, low))

-- a list that is as long as none is none
pub no-more : {A : Type 0} (xs : List A) → length xs ≡ 0 → xs ≡ []
no-more [] none = refl
no-more (x ∷ xs) none = absurd (omega (arith, none))

-- nothing stands in none
pub no-step : {A : Type 0} (xs : List A) → xs ≡ [] → (k : ℕ) (y : A) → slice_get xs k ≡ Some y → ⊥
no-step xs none k y is = let is' : slice_get [] k ≡ Some y = subst (λ zs. slice_get zs k ≡ Some y) none is in cc is'
