-- Where the first element of a list is that passes a test, and what stands before it.
use Rattle.std.proofs.Common.{◌≡◌, ℕ, ◌+◌, ◌≤◌, ◌<◌, Bool, true, false, not, cond, ◌||◌, List, [], ◌∷◌, length, None, Some, refl, ap, ◌∙◌, arith, lt-ltb}
use Rattle.std.specs.Prelude.{nat_lt, position}
use Rattle.std.proofs.lemmas.Bool.Decides.{nat_tests}
use Rattle.std.proofs.lemmas.List.{take_all}
use Rattle.std.proofs.lemmas.List.Sums.{prefix_len-le-length}
use Rattle.std.specs.List.{list_any, before_first, position_or_len}

-- some byte passes just where the first that does stands within the list
pub any_by_place : (p : ℕ → Bool) (xs : List ℕ) → list_any p xs ≡ nat_lt (position_or_len p xs) (length xs)
any_by_place p [] = refl
any_by_place p (x ∷ xs) =
    let rest = any_by_place p xs in
    elim (p x) as (λ b. (b || list_any p xs) ≡ nat_lt (cond (not b) (1 + position_or_len p xs) 0) (length (x ∷ xs))) [
      | true ↦ grind (arith, nat_tests)
      | false ↦ rest ∙ grind (arith, nat_tests)
    ]

pub place_within : (p : ℕ → Bool) (xs : List ℕ) → position_or_len p xs ≤ length xs
place_within p = prefix_len-le-length (λ x. not (p x))

-- what a search gives, from the place of the first
pub placed : (p : ℕ → Bool) (xs : List ℕ) (at : ℕ) → at < length xs → position_or_len p xs ≡ at → position p xs ≡ Some at
placed p xs at within is =
    (λ i. cond (nat_lt (is i) (length xs)) (Some (is i)) None) ∙ ap (λ b. cond b (Some at) None) (lt-ltb at (length xs) within)

pub unplaced : (p : ℕ → Bool) (xs : List ℕ) → position_or_len p xs ≡ length xs → position p xs ≡ None
unplaced p xs is =
    let never : nat_lt (position_or_len p xs) (length xs) ≡ false = grind (arith, nat_tests) in
    ap (λ b. cond b (Some (position_or_len p xs)) None) never

-- and back
pub found : (p : ℕ → Bool) (xs : List ℕ) (at : ℕ) → position p xs ≡ Some at → (list_any p xs ≡ true) × (position_or_len p xs ≡ at)
found p xs at h =
    elim (nat_lt (position_or_len p xs) (length xs)) as (λ b. list_any p xs ≡ b → cond b (Some (position_or_len p xs)) None ≡ Some at →
    (list_any p xs ≡ true) × (position_or_len p xs ≡ at)) [
      | true ↦ λ any is. (any, cc)
      | false ↦ λ any is. cc
    ] (any_by_place p xs) h

pub not_found : (p : ℕ → Bool) (xs : List ℕ) → position p xs ≡ None → (list_any p xs ≡ false) × (before_first p xs ≡ xs)
not_found p xs h =
    elim (nat_lt (position_or_len p xs) (length xs)) as (λ b. nat_lt (position_or_len p xs) (length xs) ≡ b → list_any p xs ≡ b →
    cond b (Some (position_or_len p xs)) None ≡ None → (list_any p xs ≡ false) × (before_first p xs ≡ xs)) [
      | true ↦ λ lt any is. cc
      | false ↦ λ lt any is. (any, take_all (position_or_len p xs) xs (let within = place_within p xs in grind (arith, nat_tests)))
    ] refl (any_by_place p xs) h
