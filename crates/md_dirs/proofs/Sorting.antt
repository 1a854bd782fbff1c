-- Sorted by their keys, and by their names where keys are equal, rows are in order of names.
use Rattle.std.proofs.Common.{ℕ, zero, suc, ◌≡◌, ◌+◌, ◌<◌, ◌++◌, List, [], ◌∷◌, take, Option, Some, None, Bool, true, false, map, length, get_or, All, refl, sym, ap, subst, ◌∙◌, arith, true≢false}
use Rattle.std.proofs.lemmas.List.{get_or-map, length-map, map-append, take_more}
use Rattle.std.proofs.lemmas.List.Elements.{All-append}
use Rattle.std.proofs.lemmas.List.Sorted.{IsPermutation-map, IsPermutation-sym, All-permutation, Contains-permutation}
use Rattle.std.proofs.lemmas.Map.Keys.{IsDistinct-IsPermutation}
use Rattle.std.proofs.lemmas.Map.Views.{Contains-from_lookup, lookup-from_Contains}
use Rattle.std.specs.declared.cmp.Ordering.{Ordering}
use Rattle.std.specs.declared.cmp.Ordering.TheVariants.{Less, Equal, Greater}
use Rattle.std.specs.Ordering.{nat_cmp, is_lt, ordering_then}
use Rattle.std.specs.Cmp.Lexicographic.{bytes_decides, nat_list_eq_equiv}
use Rattle.std.specs.List.{IsDistinct}
use Rattle.std.specs.List.Sorted.{IsPermutation, IsSorted, IsSortedBy}
use Rattle.std.specs.Map.{keys_of, lookup}
use Rattle.std.specs.FinMap as finmap
use Rattle.md_dirs.specs.Index.{name_cmp, rows_at, IsOrderOf}
use Rattle.md_dirs.specs.Keys.{IsKeyOf}
use Rattle.md_dirs.specs.Sortable.{Sortable, key_and_name, row_number, row_at, IsSortable, AreSortable}
use Rattle.md_dirs.proofs.Keyed.{name-of}
use Rattle.md_dirs.proofs.Keys.{by_keys}
use Rattle.md_dirs.proofs.NameRows.{Row, same, rising, reordered-loose}
use Rattle.md_dirs.proofs.Ordered.{listed-itself}

-- the test by which rows are sorted
abbrev pub is_under : List Row → Sortable → Sortable → Bool
is_under rows x y = is_lt (name_cmp (key_and_name rows x) (key_and_name rows y))

not-below : (j k : ℕ) (s t : List ℕ) → IsKeyOf j s → IsKeyOf k t → is_lt (name_cmp (j ∷ s) (k ∷ t)) ≡ false → is_lt (name_cmp s t) ≡ false
not-below j k s t is is' h = by (nat_cmp j k) refl
  where
    with-keys : (r : Ordering) → r ≡ nat_cmp j k → is_lt (ordering_then r (name_cmp s t)) ≡ false
    with-keys r same = ap (λ o. is_lt (ordering_then o (name_cmp s t))) same ∙ h

    by : (r : Ordering) → r ≡ nat_cmp j k → is_lt (name_cmp s t) ≡ false
    by Less same = absurd (true≢false (with-keys Less same))
    by Equal same = with-keys Equal same
    by Greater same = ap is_lt (by_keys j k s t is is' Greater same (λ e. let clash : Equal ≡ Greater = e ∙ sym same in cc))

-- a name that rows have is found also where they have changed places
module _ (es fs : List Row) (moved : IsPermutation es fs) (unique : IsDistinct same (keys_of es)) (unique' : IsDistinct same (keys_of fs)) (q : List ℕ) where
  name-exact : (x y : List ℕ) → same x y ≡ true → x ≡ y
  name-exact x y = (bytes_decides x y).0

  hit : (gs hs : List Row) → IsPermutation gs hs → IsDistinct same (keys_of hs) → (file : ℕ) → lookup (same q) gs ≡ Some file → lookup (same q) hs ≡ Some file
  hit gs hs moves differ file is = lookup-from_Contains nat_list_eq_equiv q file hs differ
      (Contains-permutation gs hs (q, file) moves (Contains-from_lookup name-exact q file gs is))

  pub found-moved : lookup (same q) fs ≡ lookup (same q) es
  found-moved = by (lookup (same q) es) refl (lookup (same q) fs) refl
    where
      by : (a : Option ℕ) → lookup (same q) es ≡ a → (b : Option ℕ) → lookup (same q) fs ≡ b → lookup (same q) fs ≡ lookup (same q) es
      by (Some file) is b is' = hit es fs moved unique' file is ∙ sym is
      by None is None is' = is' ∙ sym is
      by None is (Some file) is' = let back = hit fs es (IsPermutation-sym es fs moved) unique file is' in cc

module _ (rows : List Row) where
  -- one more row to be sorted
  pub one-more : (xs : List Sortable) (x : Sortable) → All (IsSortable rows) xs → map (row_at rows) xs ≡ take x.1 rows → IsSortable rows x →
      All (IsSortable rows) (xs ++ x ∷ []) × (map (row_at rows) (xs ++ x ∷ []) ≡ take (x.1 + 1) rows)
  one-more xs x each are is = (
    All-append (IsSortable rows) xs (x ∷ []) each (λ k d h. one k d h),
    map-append (row_at rows) xs (x ∷ []) ∙ ap (λ es. es ++ row_at rows x ∷ []) are ∙ sym (take_more rows x.1 ([], 0) is.within),
  )
    where
      one : (k : ℕ) (d : Sortable) → k < 1 → IsSortable rows (get_or (x ∷ []) k d)
      one zero d h = is
      one (suc k) d h = absurd (omega (arith, h))

  name-at : (y : Sortable) (ys : List Sortable) (k : ℕ) (d : List ℕ) → k < length ys →
      get_or (keys_of (map (row_at rows) ys)) k d ≡ (row_at rows (get_or ys k y)).0
  name-at y ys k d h =
      let long : length (map (row_at rows) ys) ≡ length ys = length-map ys (row_at rows) in
      get_or-map name-of (map (row_at rows) ys) k (row_at rows y) d (omega (arith, h, long))
      ∙ ap name-of (get_or-map (row_at rows) ys k y (row_at rows y) h)

  sorted-names : (ys : List Sortable) → All (IsSortable rows) ys → IsSortedBy (is_under rows) ys → IsSorted name_cmp (keys_of (map (row_at rows) ys))
  sorted-names [] each sorted k d from within = absurd (omega (arith, within))
  sorted-names (y ∷ ys) each sorted k d from within =
      let long : length (map (row_at rows) (y ∷ ys)) ≡ length (y ∷ ys) = length-map (y ∷ ys) (row_at rows) in
      let long' : length (keys_of (map (row_at rows) (y ∷ ys))) ≡ length (map (row_at rows) (y ∷ ys)) = length-map (map (row_at rows) (y ∷ ys)) name-of in
      let next : k + 1 < length (y ∷ ys) = omega (arith, within, long, long') in
      let here : k < length (y ∷ ys) = omega (arith, next) in
      let above = get_or (y ∷ ys) (k + 1) y in
      let below = get_or (y ∷ ys) k y in
      (λ i. is_lt (name_cmp (name-at y (y ∷ ys) (k + 1) d next i) (name-at y (y ∷ ys) k d here i)))
      ∙ not-below above.0 below.0 (row_at rows above).0 (row_at rows below).0 (each (k + 1) y next).key (each k y here).key (sorted k y from next)

  module _ (xs ys : List Sortable) (sortable : AreSortable rows xs) (moved : IsPermutation xs ys) (sorted : IsSortedBy (is_under rows) ys)
      (unique : IsDistinct same (keys_of rows)) where
    abbrev listed : List Row
    listed = map (row_at rows) ys

    each : All (IsSortable rows) ys
    each = All-permutation (IsSortable rows) xs ys moved sortable.each

    rows-moved : IsPermutation rows listed
    rows-moved = subst (λ es. IsPermutation es listed) sortable.rows_are (IsPermutation-map (row_at rows) xs ys moved)

    listed-unique : IsDistinct same (keys_of listed)
    listed-unique = IsDistinct-IsPermutation same nat_list_eq_equiv.symm (keys_of rows) (keys_of listed) (IsPermutation-map name-of rows listed rows-moved) unique

    by-numbers : (zs : List Sortable) → rows_at rows (map row_number zs) ≡ map (row_at rows) zs
    by-numbers [] = refl
    by-numbers (z ∷ zs) = ap (λ es. row_at rows z ∷ es) (by-numbers zs)

    pub order-is : IsOrderOf rows (map row_number ys)
    order-is = record {
      within = λ k d h. numbered ys each k d h;
      lists = by-numbers ys
          ∙ listed-itself listed (rising listed (sorted-names ys each sorted) listed-unique)
          ∙ ap finmap.entries (reordered-loose rows listed (λ q.
          found-moved rows listed rows-moved unique listed-unique q));
    }
      where
        numbered : (zs : List Sortable) → All (IsSortable rows) zs → All (λ i. i < length rows) (map row_number zs)
        numbered [] all k d h = absurd (omega (arith, h))
        numbered (z ∷ zs) all k d h =
            let long : length (map row_number (z ∷ zs)) ≡ length (z ∷ zs) = length-map (z ∷ zs) row_number in
            let inner : k < length (z ∷ zs) = omega (arith, h, long) in
            let is = get_or-map row_number (z ∷ zs) k z d inner in
            let below = (all k z inner).within in
            omega (arith, is, below)
