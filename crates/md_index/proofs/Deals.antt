-- Each step of the deque keeps its rule.
use Rattle.std.proofs.Common.{◌≡◌, ◌≢◌, ℕ, zero, suc, ◌+◌, ◌<◌, List, [], ◌∷◌, ◌++◌, length, set, refl, sym, ap, ◌∙◌, subst, ⊎_elim, arith, append_assoc, length-append, IsPermutation}
use Rattle.std.specs.List.{range_with_len}
use Rattle.std.proofs.Math.ListN.{length-set}
use Rattle.std.proofs.lemmas.Grind.{flat_map-append}
use Rattle.std.proofs.lemmas.List.{append-nil}
use Rattle.std.proofs.lemmas.List.Sorted.{IsPermutation-refl, IsPermutation-append_left, IsPermutation-append_right, IsPermutation-append_comm, IsPermutation-trans, IsPermutation-sym}
use mathlib.Core.Option.{some, some-ne-none, some-injective}
use lib.ListN.{get_elem?}
use Rattle.crossbeam_deque.specs.Tasks.{Pushes, Takes, Admits}
use Rattle.crossbeam_deque.proofs.Lists.{at_set}
use Rattle.md_index.specs.declared.deal.Hand.{Hand}
use Rattle.md_index.specs.Deal.{hand, taken_by, IsDealt}

-- a hand that takes numbers
taken_by-set : (hands : List Hand) (seat : ℕ) (v w : Hand) (xs : List ℕ) → get_elem? hands seat ≡ some v → w.taken ≡ v.taken ++ xs
    → IsPermutation (taken_by hands ++ xs) (taken_by (set hands seat w))
taken_by-set [] seat v w xs at takes = absurd (some-ne-none v (sym at))
taken_by-set (h ∷ hands) zero v w xs at takes =
    let same : h.taken ≡ v.taken = ap (λ (u : Hand). u.taken) (some-injective _ _ at) in
    let rest = taken_by hands in
    subst (λ l. IsPermutation ((h.taken ++ rest) ++ xs) (l ++ rest)) (ap (λ l. l ++ xs) same ∙ sym takes)
    (rw (append_assoc, append_assoc) (IsPermutation-append_right h.taken (rest ++ xs) (xs ++ rest) (IsPermutation-append_comm rest xs)))
taken_by-set (h ∷ hands) (suc seat) v w xs at takes =
    rw append_assoc (IsPermutation-append_right h.taken (taken_by hands ++ xs) (taken_by (set hands seat w))
    (taken_by-set hands seat v w xs at takes))

range-next : (a n m b : ℕ) → m ≡ n + 1 → b ≡ a + n → range_with_len a m ≡ range_with_len a n ++ b ∷ []
range-next a zero m b more last = let one : m ≡ 1 = omega arith in let only : a ≡ b = omega arith in rw one (ap (λ k. k ∷ []) only)
range-next a (suc n) m b more last = let longer : m ≡ suc (n + 1) =
    omega arith in rw longer (ap (λ l. a ∷ l) (range-next (a + 1) n (n + 1) b refl (omega arith)))

-- a hand that takes nothing
taken_by-set-same : (hands : List Hand) (seat : ℕ) (v w : Hand) → get_elem? hands seat ≡ some v → w.taken ≡ v.taken →
    taken_by (set hands seat w) ≡ taken_by hands
taken_by-set-same [] seat v w at same = absurd (some-ne-none v (sym at))
taken_by-set-same (h ∷ hands) zero v w at same = ap (λ l. l ++ taken_by hands) (same ∙ ap (λ (u : Hand). u.taken) (sym (some-injective _ _ at)))
taken_by-set-same (h ∷ hands) (suc seat) v w at same = ap (λ l. h.taken ++ l) (taken_by-set-same hands seat v w at same)

-- the first hand stays where one joins behind
first-stays : (hands : List Hand) (w v : Hand) → 0 < length hands → get_elem? (hands ++ w ∷ []) 0 ≡ some v → get_elem? hands 0 ≡ some v
first-stays [] w v some_there at = absurd (omega arith)
first-stays (u ∷ hands) w v some_there at = at

pub begins : IsDealt [] (hand 0 [] ∷ [])
begins = record {
  pushed = 0;
  each_once = IsPermutation-refl [];
  owner = λ first at. ap (λ (u : Hand). u.pushed) (sym (some-injective _ _ at));
  some_hand = omega arith;
}

pub admits : Admits IsDealt (hand 0 [])
admits left hands is = record {
  pushed = is.pushed;
  each_once = rw (flat_map-append (λ (h : Hand). h.taken) hands (hand 0 [] ∷ []), append-nil (taken_by hands)) is.each_once;
  owner = λ first at. is.owner first (first-stays hands (hand 0 []) first is.some_hand at);
  some_hand = omega (arith, length-append hands (hand 0 [] ∷ []), is.some_hand);
}

pub pushes : (v : Hand) → Pushes IsDealt 0 v (v.pushed ∷ []) (λ w. w ≡ hand (v.pushed + 1) v.taken)
pushes v left hands is at =
    let w = hand (v.pushed + 1) v.taken in (
      w,
      record {
        pushed = v.pushed + 1;
        each_once = rw (taken_by-set-same hands 0 v w at refl, range-next 0 v.pushed (v.pushed + 1) v.pushed refl (omega arith), ← append_assoc, is.owner v at)
            (IsPermutation-append_left (is.pushed ∷ []) (taken_by hands ++ left) (range_with_len 0 is.pushed) is.each_once);
        owner = λ first e. ⊎_elim (λ (is : (0 ≡ 0) × (w ≡ first)). ap (λ (u : Hand). u.pushed) (sym is.1))
            (λ (is : (0 ≢ 0) × (get_elem? hands 0 ≡ some first)). absurd (is.0 refl)) (at_set hands 0 0 w first e);
        some_hand = simp length-set is.some_hand;
      },
      refl,
    )

pub takes : (seat : ℕ) (v : Hand) → Takes IsDealt seat v 1 (λ xs w. w ≡ hand v.pushed (v.taken ++ xs))
takes seat v xs left hands _ _ is at =
    let w = hand v.pushed (v.taken ++ xs) in
    let after = taken_by (set hands seat w) in
    let moved = IsPermutation-append_left left (taken_by hands ++ xs) after (taken_by-set hands seat v w xs at refl) in (
      w,
      record {
        pushed = is.pushed;
        each_once = IsPermutation-trans (after ++ left) (taken_by hands ++ (xs ++ left)) (range_with_len 0 is.pushed)
            (IsPermutation-sym (taken_by hands ++ (xs ++ left)) (after ++ left) (rw append_assoc at moved)) is.each_once;
        owner = λ first e. ⊎_elim
            (λ (same : (0 ≡ seat) × (w ≡ first)). ap (λ (u : Hand). u.pushed) (sym same.1) ∙
            is.owner v (subst (λ (j : ℕ). get_elem? hands j ≡ some v) (sym same.0) at))
            (λ (other : (0 ≢ seat) × (get_elem? hands 0 ≡ some first)). is.owner first other.1)
            (at_set hands seat 0 w first e);
        some_hand = simp length-set is.some_hand;
      },
      refl,
    )
