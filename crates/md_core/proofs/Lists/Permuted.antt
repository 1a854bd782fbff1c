-- Lists with the same elements in another order: what was mapped to them, and the greatest of their numbers.
use Rattle.std.proofs.Common.{ℕ, ◌≡◌, ◌<◌, ◌≤◌, List, [], ◌∷◌, max, fold, map, length, get_or, set, swap, refl, sym, ap, ◌∙◌, arith}
use Rattle.std.specs.List.{AllByRecursion}
use Rattle.std.specs.List.Sorted.{IsPermutation}
use Rattle.std.proofs.lemmas.Bool.Decides.{nat_tests}
use Rattle.std.proofs.lemmas.List.{map-set, get_or-map, length-map}
use Rattle.std.proofs.lemmas.List.Elements.{recursion_from_All, All-from_recursion}
use Rattle.std.proofs.lemmas.List.Sorted.{IsPermutation-refl, IsPermutation-trans, IsPermutation-sym, IsPermutation-swap, IsPermutation-keeps, All-permutation}

-- ---- what was mapped

module _ {X Y : Type 0} (f : X → Y) where
  map-swap : (es : List X) (i j : ℕ) → i < length es → j < length es → swap (map f es) i j ≡ map f (swap es i j)
  map-swap [] i j p q = refl
  map-swap (d ∷ es) i j p q =
      let x = get_or (d ∷ es) j d in
      let y = get_or (d ∷ es) i d in
      (λ k. set (set (map f (d ∷ es)) i (get_or-map f (d ∷ es) j d (f d) q k)) j (get_or-map f (d ∷ es) i d (f d) p k))
      ∙ sym (map-set f (set (d ∷ es) i x) j y ∙ ap (λ l. set l j (f y)) (map-set f (d ∷ es) i x))

  -- what a list is mapped to, in another order, is what the list in that order is mapped to
  abbrev pub IsMapped : List X → List Y → Type 0
  IsMapped es ys = (fs : List X) × IsPermutation es fs × (ys ≡ map f fs)

  pub mapped-moved : (es : List X) (ys : List Y) → IsPermutation (map f es) ys → IsMapped es ys
  mapped-moved es ys = IsPermutation-keeps (map f es) (IsMapped es) (es, IsPermutation-refl es, refl)
      (λ l i j p q h.
      let fs = h.0 in
      let long : length l ≡ length fs = ap length h.2 ∙ length-map fs f in
      let p' : i < length fs = omega (arith, p, long) in
      let q' : j < length fs = omega (arith, q, long) in (
        swap fs i j,
        IsPermutation-trans es fs (swap fs i j) h.1 (IsPermutation-swap fs (swap fs i j) i j p' q' refl),
        ap (λ k. swap k i j) h.2 ∙ map-swap fs i j p' q',
      )) ys

-- ---- the greatest number

module _ {X : Type 0} (n : X → ℕ) where
  abbrev greatest : ℕ → List X → ℕ
  greatest = fold (λ a x. max a (n x))

  max_bounds : (a b m : ℕ) → max a b ≤ m → (a ≤ m) × (b ≤ m)
  max_bounds a b m h = (grind (arith, nat_tests), grind (arith, nat_tests))

  max_within : (a b m : ℕ) → a ≤ m → b ≤ m → max a b ≤ m
  max_within a b m p q = grind (arith, nat_tests)

  bounds : (a : ℕ) (xs : List X) → (a ≤ greatest a xs) × AllByRecursion (λ x. n x ≤ greatest a xs) xs
  bounds a [] = (omega arith, tt)
  bounds a (x ∷ xs) =
      let rest = bounds (max a (n x)) xs in
      let both = max_bounds a (n x) _ rest.0 in
      (both.0, (both.1, rest.1))

  least : (a : ℕ) (xs : List X) (m : ℕ) → a ≤ m → AllByRecursion (λ x. n x ≤ m) xs → greatest a xs ≤ m
  least a [] m h all = h
  least a (x ∷ xs) m h all = least (max a (n x)) xs m (max_within a (n x) m h all.0) all.1

  no_less : (a : ℕ) (xs ys : List X) → IsPermutation xs ys → greatest a ys ≤ greatest a xs
  no_less a xs ys moved =
      let m = greatest a xs in
      least a ys m (bounds a xs).0
      (recursion_from_All (λ x. n x ≤ m) ys (All-permutation (λ x. n x ≤ m) xs ys moved (All-from_recursion (λ x. n x ≤ m) xs (bounds a xs).1)))

  pub greatest-moved : (a : ℕ) (xs ys : List X) → IsPermutation xs ys → greatest a ys ≡ greatest a xs
  greatest-moved a xs ys moved =
      let below = no_less a xs ys moved in
      let above = no_less a ys xs (IsPermutation-sym xs ys moved) in
      omega (arith, below, above)
