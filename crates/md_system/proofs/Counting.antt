-- How many elements of a list in order tie with one.
use Rattle.std.proofs.Common.{ℕ, zero, suc, ◌≡◌, ◌≤◌, ◌+◌, Bool, true, false, cond, List, [], ◌∷◌, length, count_by, nat_lt, nat_le}
use Rattle.std.proofs.Common.{refl, sym, ap, subst, ◌∙◌, arith}
use Rattle.std.specs.Cmp.{IsTotalOrder}
use Rattle.std.specs.List.Sorted.{IsSorted, IsPartitionPoint, IsPartitionedBy, IsNonDecreasingBy}
use Rattle.std.specs.Ordering.{is_lt, is_le, is_eq, ordering_index}
use Rattle.std.specs.declared.cmp.Ordering.{Ordering}
use Rattle.std.specs.declared.cmp.Ordering.TheVariants.{Less, Equal, Greater}
use Rattle.std.proofs.lemmas.List.Sums.{sum_by-cons}
use Rattle.std.proofs.lemmas.List.Sorted.{searchable_from_sorted, IsPartitionedBy-leb, IsPartitionedBy-ltb}

module _ {X : Type 0} where
  -- as many elements pass a test as stand before the point where it fails first
  counted : (p : X → Bool) (xs : List X) (i : ℕ) → IsPartitionPoint (λ y. p y ≡ true) (λ y. p y ≡ false) xs i → i ≤ length xs → count_by p xs ≡ i
  counted p [] i point within = omega arith
  counted p (x ∷ xs) zero point within =
      let none : p x ≡ false = point.1 0 x (omega arith) (omega arith) in
      let rest : count_by p xs ≡ 0 =
      counted p xs zero ((λ k d low high. absurd (omega arith)), (λ k d low high. point.1 (suc k) d (omega arith) (omega arith))) (omega arith) in
      sum_by-cons (λ (y : X). cond (p y) 1 0) x xs ∙ (λ i. cond (none i) 1 0 + rest i)
  counted p (x ∷ xs) (suc i) point within =
      let one : p x ≡ true = point.0 0 x (omega arith) (omega arith) in
      let rest : count_by p xs ≡ i =
      counted p xs i ((λ k d low high. point.0 (suc k) d (omega arith) (omega arith)), (λ k d low high. point.1 (suc k) d (omega arith) (omega arith)))
      (omega arith) in
      sum_by-cons (λ (y : X). cond (p y) 1 0) x xs ∙ (λ j. cond (one j) 1 0 + rest j) ∙ omega arith

  -- each element passes one of two tests, or neither, as it passes a third
  both-counted : (p q r : X → Bool) → ((x : X) → cond (p x) 1 0 + cond (q x) 1 0 ≡ cond (r x) 1 0) → (xs : List X) →
      count_by p xs + count_by q xs ≡ count_by r xs
  both-counted p q r each [] = refl
  both-counted p q r each (x ∷ xs) =
      let rest : count_by p xs + count_by q xs ≡ count_by r xs = both-counted p q r each xs in
      omega (
        arith,
        each x,
        sum_by-cons (λ (y : X). cond (p y) 1 0) x xs,
        sum_by-cons (λ (y : X). cond (q y) 1 0) x xs,
        sum_by-cons (λ (y : X). cond (r y) 1 0) x xs,
      )

  module _ {R : X → X → Ordering} (total : IsTotalOrder R) (xs : List X) (sorted : IsSorted R xs) (x : X) where
    abbrev index : X → ℕ
    index y = ordering_index (R y x)

    rising : IsNonDecreasingBy index xs
    rising = searchable_from_sorted total (λ (y : X). y) xs x sorted

    below-is : (o : Ordering) → nat_lt (ordering_index o) 1 ≡ is_lt o
    below-is Less = refl
    below-is Equal = refl
    below-is Greater = refl

    upto-is : (o : Ordering) → nat_le (ordering_index o) 1 ≡ is_le o
    upto-is Less = refl
    upto-is Equal = refl
    upto-is Greater = refl

    pub parted-below : IsPartitionedBy (λ y. is_lt (R y x)) xs
    parted-below = subst (λ (p : X → Bool). IsPartitionedBy p xs) (λ i y. below-is (R y x) i) (IsPartitionedBy-ltb index xs 1 rising)

    pub parted-upto : IsPartitionedBy (λ y. is_le (R y x)) xs
    parted-upto = subst (λ (p : X → Bool). IsPartitionedBy p xs) (λ i y. upto-is (R y x) i) (IsPartitionedBy-leb index xs 1 rising)

    split-is : (o : Ordering) → cond (is_lt o) 1 0 + cond (is_eq o) 1 0 ≡ cond (is_le o) 1 0
    split-is Less = refl
    split-is Equal = refl
    split-is Greater = refl

    -- those that tie stand between two points
    pub ties-between : (low high : ℕ) → low ≤ length xs → high ≤ length xs →
        IsPartitionPoint (λ y. is_lt (R y x) ≡ true) (λ y. is_lt (R y x) ≡ false) xs low →
        IsPartitionPoint (λ y. is_le (R y x) ≡ true) (λ y. is_le (R y x) ≡ false) xs high →
        low + count_by (λ y. is_eq (R y x)) xs ≡ high
    ties-between low high low-in high-in below upto =
        let lows = counted (λ y. is_lt (R y x)) xs low below low-in in
        let highs = counted (λ y. is_le (R y x)) xs high upto high-in in
        ap (λ n. n + count_by (λ y. is_eq (R y x)) xs) (sym lows)
        ∙ both-counted (λ y. is_lt (R y x)) (λ y. is_eq (R y x)) (λ y. is_le (R y x)) (λ y. split-is (R y x)) xs ∙ highs
