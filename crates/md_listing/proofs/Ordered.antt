-- Entries that were sorted by unique name, no unique name standing twice, are in order.
use Rattle.std.proofs.Common.{ℕ, suc, ◌≡◌, ◌≤◌, ◌+◌, inl, inr, List, [], ◌∷◌, Bool, true, false, cond, filter, length, refl, sym, ap, subst, ◌∙◌, arith}
use Rattle.std.specs.declared.cmp.Ordering.{Ordering}
use Rattle.std.specs.declared.cmp.Ordering.TheVariants.{Less, Equal, Greater}
use Rattle.std.specs.Ordering.{eq_by_cmp, is_lt, is_eq}
use Rattle.std.specs.List.{slice_index_or, All}
use Rattle.std.specs.List.Sorted.{IsPermutation, IsSortedBy}
use Rattle.std.proofs.lemmas.List.Sorted.{sum_by-IsPermutation, All-permutation, IsPermutation-sym}
use Rattle.std.proofs.lemmas.List.Elements.{All-head, All-tail, All-cons}
use Rattle.std.proofs.lemmas.List.Sums.{length-filter}
use Rattle.md_core.specs.Mailbox.{name_cmp}
use Rattle.lists.proofs.Members.{Has}
use Rattle.md_listing.specs.declared.entry.Entry.{Entry}
use Rattle.md_listing.proofs.Keyed.{IsSorted, both, first, is_less, turned, tie-itself, below-less}

-- whether an entry has a unique name
abbrev pub is_of : List ℕ → Entry → Bool
is_of u e = eq_by_cmp name_cmp u e.unique

-- no unique name stands twice
abbrev pub IsApart : List Entry → Type 0
IsApart es = (u : List ℕ) → length (filter (is_of u) es) ≤ 1

-- whether an entry is below another by unique name
abbrev pub is_under : Entry → Entry → Bool
is_under x y = is_lt (name_cmp x.unique y.unique)

pub apart-permuted : (xs ys : List Entry) → IsPermutation xs ys → IsApart xs → IsApart ys
apart-permuted xs ys same apart u =
    let e : length (filter (is_of u) ys) ≡ length (filter (is_of u) xs) =
    length-filter (is_of u) ys ∙ sum_by-IsPermutation (λ (x : Entry). cond (is_of u x) 1 0) xs ys same ∙ sym (length-filter (is_of u) xs) in
    let h = apart u in
    omega (arith, e, h)

weak-tail : (y : Entry) (ys : List Entry) → IsSortedBy is_under (y ∷ ys) → IsSortedBy is_under ys
weak-tail y ys weak = λ k d low within.
    let e : k + 1 ≡ suc k = omega arith in
    let f : (k + 1) + 1 ≡ suc (k + 1) = omega arith in
    subst (λ n. is_under (slice_index_or (y ∷ ys) n d) (slice_index_or ys k d) ≡ false) f
    (subst (λ n. is_under (slice_index_or (y ∷ ys) ((k + 1) + 1) d) (slice_index_or (y ∷ ys) n d) ≡ false) e (weak (k + 1) d (omega arith) (omega arith)))

apart-tail : (y : Entry) (ys : List Entry) → IsApart (y ∷ ys) → IsApart ys
apart-tail y ys apart u = by (is_of u y) (apart u)
  where
    by : (b : Bool) → length (cond b (y ∷ filter (is_of u) ys) (filter (is_of u) ys)) ≤ 1 → length (filter (is_of u) ys) ≤ 1
    by true h = omega arith
    by false h = h

-- of two neighbours, the first is below the second
rises : (y z : Entry) (zs : List Entry) → IsSortedBy is_under (y ∷ z ∷ zs) → IsApart (y ∷ z ∷ zs) → name_cmp y.unique z.unique ≡ Less
rises y z zs weak apart = by (name_cmp y.unique z.unique) refl
  where
    twice : (a b : Bool) → a ≡ true → b ≡ true → (rest : List Entry) → length (cond a (y ∷ cond b (z ∷ rest) rest) (cond b (z ∷ rest) rest)) ≤ 1 → ⊥
    twice true true p q rest h = omega arith
    twice true false p q rest h = cc
    twice false b p q rest h = cc

    by : (o : Ordering) → name_cmp y.unique z.unique ≡ o → name_cmp y.unique z.unique ≡ Less
    by Less is = is
    by Equal is = absurd (twice (is_of y.unique y) (is_of y.unique z) (tie-itself y.unique) (ap is_eq is) (filter (is_of y.unique) zs) (apart y.unique))
    by Greater is =
        let never : is_under z y ≡ false = weak 0 y (omega arith) (omega arith) in
        let under : is_under z y ≡ true = ap is_lt (turned z.unique y.unique Greater is) in
        cc

pub strictly : (es : List Entry) → IsSortedBy is_under es → IsApart es → IsSorted es
strictly [] weak apart = tt
strictly (y ∷ []) weak apart = tt
strictly (y ∷ z ∷ zs) weak apart =
    let low = rises y z zs weak apart in
    let rest = strictly (z ∷ zs) (weak-tail y (z ∷ zs) weak) (apart-tail y (z ∷ zs) apart) in
    both _ _ (both _ _ (is_less _ low) (below-less y.unique z.unique zs low (first _ _ rest))) rest

-- a list in another order has the same entries
All-has : (xs ys : List Entry) → ((e : Entry) → Has ys e → Has xs e) → All (Has xs) ys
All-has xs [] h = λ k d low. absurd (omega (arith, low))
All-has xs (y ∷ ys) h = All-cons (Has xs) y ys (h y (inl refl)) (All-has xs ys (λ e has. h e (inr has)))

has-All : (xs ys : List Entry) → All (Has xs) ys → (e : Entry) → Has ys e → Has xs e
has-All xs [] all e has = absurd has
has-All xs (y ∷ ys) all e has = elim has [
  | inl is ↦ subst (Has xs) (sym is) (All-head (Has xs) y ys all)
  | inr rest ↦ has-All xs ys (All-tail (Has xs) y ys all) e rest
]

pub permuted-has : (xs ys : List Entry) → IsPermutation xs ys → (e : Entry) → Has ys e → Has xs e
permuted-has xs ys same = has-All xs ys (All-permutation (Has xs) xs ys same (All-has xs xs (λ e has. has)))

pub has-permuted : (xs ys : List Entry) → IsPermutation xs ys → (e : Entry) → Has xs e → Has ys e
has-permuted xs ys same = permuted-has ys xs (IsPermutation-sym xs ys same)
