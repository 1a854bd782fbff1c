-- Lists with the same elements keep the same elements by a test.
use Rattle.std.proofs.Common.{ℕ, zero, suc, ◌<◌, Bool, true, false, cond, List, [], ◌∷◌, length, get_or, filter, arith}
use Rattle.std.proofs.Math.ListN.{set}
use Rattle.std.specs.List.{swap}
use Rattle.std.specs.List.Sorted.{IsPermutation}
use Rattle.std.proofs.lemmas.List.Edits.{swap_is}
use Rattle.std.proofs.lemmas.List.Sorted.{IsPermutation-refl, IsPermutation-cons, IsPermutation-middle, IsPermutation-trans, IsPermutation-keeps}
use Rattle.std.proofs.Common.{subst}

module _ {X : Type 0} (p : X → Bool) where
  -- a longer list
  cons : (x : X) (xs ys : List X) → IsPermutation (filter p xs) (filter p ys) → IsPermutation (filter p (x ∷ xs)) (filter p (x ∷ ys))
  cons x xs ys same = by (p x)
    where
      by : (b : Bool) → IsPermutation (cond b (x ∷ filter p xs) (filter p xs)) (cond b (x ∷ filter p ys) (filter p ys))
      by true = IsPermutation-cons x _ _ same
      by false = same

  -- the first two the other way round
  two : (x y : X) (xs : List X) → IsPermutation (filter p (x ∷ y ∷ xs)) (filter p (y ∷ x ∷ xs))
  two x y xs = by (p x) (p y)
    where
      by : (b c : Bool) → IsPermutation (cond b (x ∷ cond c (y ∷ filter p xs) (filter p xs)) (cond c (y ∷ filter p xs) (filter p xs)))
          (cond c (y ∷ cond b (x ∷ filter p xs) (filter p xs)) (cond b (x ∷ filter p xs) (filter p xs)))
      by true true = IsPermutation-middle (x ∷ []) y (filter p xs)
      by true false = IsPermutation-refl _
      by false true = IsPermutation-refl _
      by false false = IsPermutation-refl _

  -- the first in the place of another
  first : (x d : X) (xs : List X) (k : ℕ) → k < length xs → IsPermutation (filter p (x ∷ xs)) (filter p (get_or xs k d ∷ set xs k x))
  first x d [] k within = absurd (omega arith)
  first x d (y ∷ xs) zero within = two x y xs
  first x d (y ∷ xs) (suc k) within =
      IsPermutation-trans _ _ _ (two x y xs)
      (IsPermutation-trans _ _ _ (cons y (x ∷ xs) (get_or xs k d ∷ set xs k x) (first x d xs k (omega arith))) (two y (get_or xs k d) (set xs k x)))

  exchanged : (d : X) (xs : List X) (i j : ℕ) → i < length xs → j < length xs →
      IsPermutation (filter p xs) (filter p (set (set xs i (get_or xs j d)) j (get_or xs i d)))
  exchanged d [] i j low high = absurd (omega arith)
  exchanged d (x ∷ xs) zero zero low high = IsPermutation-refl _
  exchanged d (x ∷ xs) zero (suc j) low high = first x d xs j (omega arith)
  exchanged d (x ∷ xs) (suc i) zero low high = first x d xs i (omega arith)
  exchanged d (x ∷ xs) (suc i) (suc j) low high = cons x _ _ (exchanged d xs i j (omega arith) (omega arith))

  pub IsPermutation-filter : (xs ys : List X) → IsPermutation xs ys → IsPermutation (filter p xs) (filter p ys)
  IsPermutation-filter xs ys same =
      IsPermutation-keeps xs (λ l. IsPermutation (filter p xs) (filter p l)) (IsPermutation-refl _) step ys same
    where
      step : (l : List X) (i j : ℕ) → i < length l → j < length l → IsPermutation (filter p xs) (filter p l) → IsPermutation (filter p xs) (filter p (swap l i j))
      step [] i j low high is = absurd (omega arith)
      step (d ∷ l) i j low high is =
          IsPermutation-trans _ _ _ is
          (subst (λ (m : List X). IsPermutation (filter p (d ∷ l)) (filter p m)) (swap_is (d ∷ l) i j d low high) (exchanged d (d ∷ l) i j low high))
