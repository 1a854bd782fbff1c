-- The rows of a directory's hash table: what they have at a name, and that they stay in order.
use Rattle.std.proofs.Common.{ℕ, zero, suc, ◌≡◌, ◌+◌, ◌<◌, List, [], ◌∷◌, Some, None, Bool, true, false, cond, T, length, nat_eq, refl, sym, ap, subst, ◌∙◌, arith, get_or, slice_get}
use Rattle.std.specs.declared.cmp.Ordering.{Ordering}
use Rattle.std.specs.declared.cmp.Ordering.TheVariants.{Less, Equal, Greater}
use Rattle.std.specs.Ordering.{eq_by_cmp, is_lt, is_eq, ordering_reverse, nat_cmp}
use Rattle.std.specs.Cmp.{IsTotalOrder, eq_by_cmp_equiv, unsigned_ties}
use Rattle.std.specs.Cmp.Lexicographic.{pointwise, lists_ties}
use Rattle.std.specs.List.{IsDistinct}
use Rattle.std.specs.List.Sorted.{IsSorted}
use Rattle.std.specs.Map.{keys_of, lookup}
use Rattle.std.specs.FinMap as finmap
use Rattle.std.specs.FinMap.{find, is_sorted, get-insert, get-remove, get-from_entries, from_entries, same_map}
use Rattle.std.proofs.lemmas.Cmp.{nat_list_cmp_total}
use Rattle.std.proofs.lemmas.Map.Lookups.{CmpEqualImpliesEq, exact_bytes}
use Rattle.md_dirs.specs.Index.{name_cmp}
use Rattle.lists.proofs.Booleans.{first, both}
use Rattle.lists.proofs.Orders.{is_less}
use Rattle.lists.proofs.Members.{below-trans}

pub name_total : IsTotalOrder name_cmp
name_total = nat_list_cmp_total

pub name_exact : CmpEqualImpliesEq name_cmp
name_exact = exact_bytes

-- the test of a name, as the table makes it
abbrev pub same : List ℕ → List ℕ → Bool
same = pointwise nat_eq

pub ties : (x y : List ℕ) → same x y ≡ eq_by_cmp name_cmp x y
ties = lists_ties nat_cmp unsigned_ties

-- a row of the table
abbrev pub Row : Type 0
Row = List ℕ × ℕ

-- keys that do not fall and differ rise
head-less : (x y : List ℕ) → is_lt (name_cmp y x) ≡ false → same x y ≡ false → name_cmp x y ≡ Less
head-less x y not_less differ = by_order (name_cmp x y) refl
  where
    by_order : (o : Ordering) → name_cmp x y ≡ o → o ≡ Less
    by_order Less is = refl
    by_order Equal is = let tie : same x y ≡ true = ties x y ∙ ap is_eq is in cc
    by_order Greater is = let turned : is_lt (name_cmp y x) ≡ true = ap is_lt (name_total.antisymm y x ∙ ap ordering_reverse is) in cc

pub turned-test : (k q : List ℕ) → same k q ≡ eq_by_cmp name_cmp q k
turned-test k q = ties k q ∙ (eq_by_cmp_equiv name_total).symm k q

lookup-is : (q : List ℕ) (es : List Row) → lookup (same q) es ≡ find name_cmp q es
lookup-is q [] = refl
lookup-is q (e ∷ es) = λ i. cond (ties q e.0 i) (Some e.1) (lookup-is q es i)

tail-sorted : (e f : List ℕ) (ks : List (List ℕ)) → IsSorted name_cmp (e ∷ f ∷ ks) → IsSorted name_cmp (f ∷ ks)
tail-sorted e f ks sorted k d from within =
    let one : suc k + 1 ≡ suc (k + 1) = omega arith in
    subst (λ (j : ℕ). is_lt (name_cmp (get_or (e ∷ f ∷ ks) j d) (get_or (f ∷ ks) k d)) ≡ false) one (sorted (suc k) d (omega arith) (omega arith))

pub rising : (es : List Row) → IsSorted name_cmp (keys_of es) → IsDistinct same (keys_of es) → T (is_sorted name_cmp es)
unfolding IsDistinct
rising [] sorted unique = tt
rising (e ∷ []) sorted unique = tt
rising (e ∷ f ∷ es) sorted unique =
    let less_here = head-less e.0 f.0 (sorted 0 e.0 (omega arith) (omega arith)) unique.0.0 in
    let rest = rising (f ∷ es) (tail-sorted e.0 f.0 (keys_of es) sorted) unique.1 in
    both _ _ (both _ _ (is_less _ less_here) (below-trans name_total e.0 f.0 es less_here (first _ _ rest))) rest

pub get-loose : (es : List Row) (q : List ℕ) → finmap.get (from_entries {R = name_cmp} es) q ≡ lookup (same q) es
get-loose es q = get-from_entries name_total es q ∙ sym (lookup-is q es)

-- a name was put
pub put-loose : (es fs : List Row) (k : List ℕ) (v : ℕ) → ((q : List ℕ) → lookup (same q) fs ≡ cond (same k q) (Some v) (lookup (same q) es))
    → from_entries {R = name_cmp} fs ≡ finmap.insert (from_entries es) k v
put-loose es fs k v updated = same_map name_total name_exact _ _ (λ q.
    get-loose fs q ∙ updated q ∙ (λ i. cond (turned-test k q i) (Some v) (sym (get-loose es q) i)) ∙
    sym (get-insert name_total (from_entries es) k v q))

-- a name was taken away
pub taken-loose : (es fs : List Row) (k : List ℕ) → ((q : List ℕ) → lookup (same q) fs ≡ cond (same k q) None (lookup (same q) es))
    → from_entries {R = name_cmp} fs ≡ finmap.remove (from_entries es) k
taken-loose es fs k updated = same_map name_total name_exact _ _ (λ q.
    get-loose fs q ∙ updated q ∙ (λ i. cond (turned-test k q i) None (sym (get-loose es q) i)) ∙ sym (get-remove name_total (from_entries es) k q))

-- the rows were put in another order
pub reordered-loose : (es fs : List Row) → ((q : List ℕ) → lookup (same q) fs ≡ lookup (same q) es) → from_entries {R = name_cmp} fs ≡ from_entries es
reordered-loose es fs alike = same_map name_total name_exact _ _ (λ q. get-loose fs q ∙ alike q ∙ sym (get-loose es q))

-- reading a list at a position
pub get-within : {X : Type 0} (xs : List X) (i : ℕ) (x : X) → slice_get xs i ≡ Some x → (i < length xs) × (get_or xs i x ≡ x)
get-within [] i x is = cc
get-within (y ∷ ys) zero x is = (omega arith, cc)
get-within (y ∷ ys) (suc i) x is = let rest = get-within ys i x is in (omega arith, rest.1)
