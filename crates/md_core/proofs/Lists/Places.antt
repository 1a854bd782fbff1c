-- Elements of lists by their places: in a list that is longer, in the first of it, and after a change.
use Rattle.std.proofs.Common.{ℕ, zero, suc, ◌≡◌, ◌<◌, ◌≤◌, ◌+◌, inl, inr, List, [], ◌∷◌, ◌++◌, Option, Some, None, Bool, true, false, cond, not, refl, sym, ap, subst, ◌∙◌, length, take, slice_get, slice_set, arith}
use Rattle.std.specs.List.{position_or_len}
use Rattle.std.specs.Prelude.{count_by}
use Rattle.std.proofs.lemmas.Bool.{cases_lt}
use Rattle.std.proofs.lemmas.List.Sums.{sum_by-append}

pub get-more : {X : Type 0} (xs ys : List X) (i : ℕ) (x : X) → slice_get xs i ≡ Some x → slice_get (xs ++ ys) i ≡ Some x
get-more [] ys i x is = cc
get-more (z ∷ xs) ys zero x is = is
get-more (z ∷ xs) ys (suc i) x is = get-more xs ys i x is

pub get-pushed : {X : Type 0} (xs : List X) (x : X) → slice_get (xs ++ x ∷ []) (length xs) ≡ Some x
get-pushed [] x = refl
get-pushed (z ∷ xs) x = get-pushed xs x

-- an element of a longer list is one of the list, or the last
pub at_end : {X C : Type 0} (xs : List X) (new : X) (i : ℕ) (x : X) → slice_get (xs ++ new ∷ []) i ≡ Some x → (slice_get xs i ≡ Some x → C) →
    (i ≡ length xs → x ≡ new → C) → C
at_end [] new zero x is early last = last refl cc
at_end [] new (suc i) x is early last = cc
at_end (z ∷ xs) new zero x is early last = early is
at_end (z ∷ xs) new (suc i) x is early last = at_end xs new i x is early (λ e. last (ap suc e))

-- an element of two lists that are one is one of the first, or one of the second
pub at_joint : {X C : Type 0} (xs ys : List X) (i : ℕ) (x : X) → slice_get (xs ++ ys) i ≡ Some x → (slice_get xs i ≡ Some x → C) →
    ((j : ℕ) → i ≡ length xs + j → slice_get ys j ≡ Some x → C) → C
at_joint [] ys i x is early late = late i (omega arith) is
at_joint (z ∷ xs) ys zero x is early late = early is
at_joint (z ∷ xs) ys (suc i) x is early late = at_joint xs ys i x is early (λ j e at. late j (omega (arith, e)) at)

-- the second list begins where the first ends
pub get-second : {X : Type 0} (xs ys : List X) (i j : ℕ) → i ≡ length xs + j → slice_get (xs ++ ys) i ≡ slice_get ys j
get-second [] ys i j e = let same : i ≡ j = omega (arith, e) in ap (slice_get ys) same
get-second (z ∷ xs) ys zero j e = absurd (omega (arith, e))
get-second (z ∷ xs) ys (suc i) j e = get-second xs ys i j (omega (arith, e))

-- the elements of the first k are those at the places below k
pub get-take : {X : Type 0} (k : ℕ) (xs : List X) (i : ℕ) → i < k → slice_get (take k xs) i ≡ slice_get xs i
get-take zero xs i below = absurd (omega arith)
get-take (suc k) [] i below = refl
get-take (suc k) (z ∷ xs) zero below = refl
get-take (suc k) (z ∷ xs) (suc i) below = get-take k xs i (omega arith)

pub get-from_take : {X : Type 0} (k : ℕ) (xs : List X) (i : ℕ) (x : X) → slice_get (take k xs) i ≡ Some x → (i < k) × (slice_get xs i ≡ Some x)
get-from_take zero xs i x is = cc
get-from_take (suc k) [] i x is = cc
get-from_take (suc k) (z ∷ xs) zero x is = (omega arith, is)
get-from_take (suc k) (z ∷ xs) (suc i) x is = let rest = get-from_take k xs i x is in (omega (arith, rest.0), rest.1)

take-suc : {X : Type 0} (xs : List X) (k : ℕ) (x : X) → slice_get xs k ≡ Some x → take (suc k) xs ≡ take k xs ++ x ∷ []
take-suc [] k x is = cc
take-suc (z ∷ xs) zero x is = let same : z ≡ x = cc in ap (λ w. w ∷ []) same
take-suc (z ∷ xs) (suc k) x is = ap (λ ws. z ∷ ws) (take-suc xs k x is)

-- the first k + 1 are the first k and the element at k
pub take-one_more : {X : Type 0} (xs : List X) (k : ℕ) (x : X) → slice_get xs k ≡ Some x → take (k + 1) xs ≡ take k xs ++ x ∷ []
take-one_more xs k x is = let e : k + 1 ≡ suc k = omega arith in ap (λ n. take n xs) e ∙ take-suc xs k x is

-- a place in a list, or past its end
pub at_place : {X C : Type 0} (xs : List X) (k : ℕ) → ((x : X) → slice_get xs k ≡ Some x → C) → (length xs ≤ k → C) → C
at_place {X = X} {C = C} xs k here past = by (slice_get xs k) refl
  where
    by : (o : Option X) → slice_get xs k ≡ o → C
    by (Some x) is = here x is
    by None is = elim (cases_lt k (length xs)) [ inl within ↦ absurd (inside xs k within is) | inr beyond ↦ past beyond ]
      where
        inside : (ys : List X) (i : ℕ) → i < length ys → slice_get ys i ≡ None → ⊥
        inside [] i within is = omega arith
        inside (y ∷ ys) zero within is = cc
        inside (y ∷ ys) (suc i) within is = inside ys i (omega arith) is

pub set-more : {X : Type 0} (xs : List X) (new : X) (i : ℕ) (x : X) → i < length xs → slice_set (xs ++ new ∷ []) i x ≡ slice_set xs i x ++ new ∷ []
set-more [] new i x within = absurd (omega arith)
set-more (z ∷ xs) new zero x within = refl
set-more (z ∷ xs) new (suc i) x within = ap (λ ws. z ∷ ws) (set-more xs new i x (omega arith))

pub length-changed : {X : Type 0} (xs : List X) (i : ℕ) (x : X) → length (slice_set xs i x) ≡ length xs
length-changed [] i x = refl
length-changed (z ∷ xs) zero x = refl
length-changed (z ∷ xs) (suc i) x = ap suc (length-changed xs i x)

-- where the first element of a kind stands: there is none, there is one already, or it is the last
module _ {X : Type 0} (p : X → Bool) where
  count-more : (x : X) (xs : List X) → count_by p (x ∷ xs) ≡ cond {A = ℕ} (p x) 1 0 + count_by p xs
  count-more x xs = let h = sum_by-append (λ y. cond {A = ℕ} (p y) 1 0) (x ∷ []) xs in omega (arith, h)

  pub none-of_kind : (xs : List X) → count_by p xs ≡ 0 → position_or_len p xs ≡ length xs
  none-of_kind [] none = refl
  none-of_kind (x ∷ xs) none = by (p x) (sym (count-more x xs) ∙ none) (none-of_kind xs)
    where
      by : (b : Bool) → cond {A = ℕ} b 1 0 + count_by p xs ≡ 0 → (count_by p xs ≡ 0 → position_or_len p xs ≡ length xs) →
          cond (not b) (1 + position_or_len p xs) 0 ≡ suc (length xs)
      by true h rest = absurd (omega arith)
      by false h rest = let r = rest (omega (arith, h)) in omega (arith, r)

  pub some-of_kind : (xs : List X) (y : X) → 0 < count_by p xs → (position_or_len p (xs ++ y ∷ []) ≡ position_or_len p xs) × (position_or_len p xs ≤ length xs)
  some-of_kind [] y some = absurd (omega arith)
  some-of_kind (x ∷ xs) y some = by (p x) (subst (λ (n : ℕ). 0 < n) (count-more x xs) some) (some-of_kind xs y)
    where
      by : (b : Bool) → 0 < cond {A = ℕ} b 1 0 + count_by p xs →
          (0 < count_by p xs → (position_or_len p (xs ++ y ∷ []) ≡ position_or_len p xs) × (position_or_len p xs ≤ length xs)) →
          (cond (not b) (1 + position_or_len p (xs ++ y ∷ [])) 0 ≡ cond (not b) (1 + position_or_len p xs) 0) ×
          (cond (not b) (1 + position_or_len p xs) 0 ≤ suc (length xs))
      by true h rest = (refl, omega arith)
      by false h rest = let r = rest (omega (arith, h)) in let less = r.1 in (ap (λ n. 1 + n) r.0, omega (arith, less))

  pub first-of_kind : (xs : List X) (y : X) → count_by p xs ≡ 0 → p y ≡ true → position_or_len p (xs ++ y ∷ []) ≡ length xs
  first-of_kind [] y none is = ap (λ b. cond (not b) 1 0) is
  first-of_kind (x ∷ xs) y none is = by (p x) (sym (count-more x xs) ∙ none) (λ h. first-of_kind xs y h is)
    where
      by : (b : Bool) → cond {A = ℕ} b 1 0 + count_by p xs ≡ 0 → (count_by p xs ≡ 0 → position_or_len p (xs ++ y ∷ []) ≡ length xs) →
          cond (not b) (1 + position_or_len p (xs ++ y ∷ [])) 0 ≡ suc (length xs)
      by true h rest = absurd (omega arith)
      by false h rest = let r = rest (omega (arith, h)) in omega (arith, r)
