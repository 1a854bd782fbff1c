-- What a list has at its places, and what a list with one element more has.
use Rattle.std.proofs.Common.{◌≡◌, ◌≤◌, ℕ, zero, suc, List, [], ◌∷◌, ◌++◌, Some, None, length, slice_get, refl, arith}

pub last-is : {A : Type 0} (xs : List A) (y : A) → slice_get (xs ++ y ∷ []) (length xs) ≡ Some y
last-is [] y = refl
last-is (x ∷ xs) y = last-is xs y

pub stays : {A : Type 0} (xs : List A) (y : A) (i : ℕ) (x : A) → slice_get xs i ≡ Some x → slice_get (xs ++ y ∷ []) i ≡ Some x
stays [] y i x is = absurd (cc is)
stays (z ∷ xs) y zero x is = is
stays (z ∷ xs) y (suc i) x is = stays xs y i x is

-- where there is nothing, the list has ended
pub past-end : {A : Type 0} (xs : List A) (i : ℕ) → slice_get xs i ≡ None → length xs ≤ i
past-end [] i is = omega arith
past-end (x ∷ xs) zero is = cc
past-end (x ∷ xs) (suc i) is = let rest = past-end xs i is in omega arith
