-- A loop that changes each item of a list by the same function.
use Rattle.std.proofs.Common.{◌≡◌, ℕ, zero, suc, ◌+◌, ◌<◌, List, [], ◌∷◌, ◌++◌, length, map, take, drop, get_or, set, refl, ap, arith}

-- one item more is changed
changed_at : {X : Type 0} → (f : X → X) (xs : List X) (i : ℕ) (d : X) → i < length xs
    → set (map f (take i xs) ++ drop i xs) i (f (get_or (map f (take i xs) ++ drop i xs) i d)) ≡ map f (take (suc i) xs) ++ drop (suc i) xs
changed_at f [] i d lt = grind arith
changed_at f (x ∷ xs) zero d lt = refl
changed_at f (x ∷ xs) (suc i) d lt = let e = changed_at f xs i d (omega arith) in ap (λ rest. f x ∷ rest) e

-- the same, as the loop has it
pub changed_more : {X : Type 0} → (f : X → X) (xs ys : List X) (i n : ℕ) (d : X)
    → ys ≡ map f (take i xs) ++ drop i xs → n ≡ i + 1 → i < length xs
    → set ys i (f (get_or ys i d)) ≡ map f (take n xs) ++ drop n xs
changed_more f xs ys i n d e more lt = let at = changed_at f xs i d lt in grind (arith, at, e, more)
