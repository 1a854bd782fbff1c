-- The entries of a directory, gathered row by row.
use Rattle.std.proofs.Common.{ℕ, zero, suc, ◌≡◌, ◌+◌, ◌++◌, List, [], ◌∷◌, ◌<◌, ◌≤◌, Option, Some, length, take, drop, slice_get, refl, sym, ap, subst, ◌∙◌, arith}
use Rattle.std.proofs.Math.Seq.{take-suc, take-add}
use Rattle.std.specs.declared.cmp.Ordering.TheVariants.{Less}
use Rattle.std.specs.List.{cons_option}
use Rattle.std.proofs.lemmas.Cmp.{nat_list_cmp_total}
use Rattle.std.proofs.lemmas.List.{length-take, length-drop}
use Rattle.std.proofs.lemmas.List.Elements.{filter_map-append}
use Rattle.std.proofs.lemmas.Option.{slice_get_within, get_or_from_slice_get}
use Rattle.md_dirs.specs.declared.paths.Place.{Place}
use Rattle.md_dirs.specs.declared.rows.Row.{Row}
use Rattle.md_core.specs.Mailbox.{name_cmp}
use Rattle.md_listing.specs.declared.entry.Entry.{Entry}
use Rattle.md_listing.specs.Readings.{IsInOrder}
use Rattle.md_listing.specs.Rows.{entry_of_row, entries_of, IsBehind}
use Rattle.md_listing.proofs.Keyed.{IsBelow, IsSorted, both, first, second, less, is_less, in-order, ordered}

module _ (place : Place) (rows : List Row) (at : ℕ) (row : Row) (is : slice_get rows at ≡ Some row) where
  taken : take (at + 1) rows ≡ take at rows ++ row ∷ []
  taken =
      let next : at + 1 ≡ suc at = omega arith in
      ap (λ n. take n rows) next ∙ take-suc rows at row (slice_get_within rows at row is)
      ∙ ap (λ x. take at rows ++ x ∷ []) (get_or_from_slice_get rows at row row is)

  pub one_more : (o : Option Entry) → entry_of_row place row ≡ o → entries_of place (take (at + 1) rows) ≡ entries_of place (take at rows) ++ cons_option o []
  one_more o made =
      ap (entries_of place) taken
      ∙ filter_map-append (entry_of_row place) (take at rows) (row ∷ [])
      ∙ ap (λ x. entries_of place (take at rows) ++ cons_option x []) made

-- rows that come next are gathered too
module _ (place : Place) (all rows : List Row) (at : ℕ) (is : rows ≡ take (length rows) (drop at all)) where
  pub many_more : entries_of place (take (at + length rows) all) ≡ entries_of place (take at all) ++ entries_of place rows
  many_more =
      ap (entries_of place) (take-add at (length rows) all ∙ ap (λ x. take at all ++ x) (sym is))
      ∙ filter_map-append (entry_of_row place) (take at all) rows

  pub at_most : 0 < length rows → at + length rows ≤ length all
  at_most some =
      let cut = ap length is ∙ length-take (length rows) (drop at all) in
      let rest = length-drop at all in
      omega (arith, some, cut, rest)

-- where none come next, all were gathered
pub ended : (all rows : List Row) (at : ℕ) → (at < length all → 0 < length rows) → length rows ≡ 0 → length all ≤ at
ended [] rows at some none = omega arith
ended (row ∷ all) rows zero some none = let here = some (omega arith) in absurd (omega (arith, here, none))
ended (row ∷ all) rows (suc at) some none = let rest = ended all rows at (λ h. some (omega (arith, h))) none in omega (arith, rest)

-- an entry behind the last of a list in order is behind all of them
behind-all : (e x : Entry) (es : List Entry) → IsSorted (x ∷ es) → IsBehind (x ∷ es) e → name_cmp x.unique e.unique ≡ Less
behind-all e x [] sorted behind = behind [] x refl
behind-all e x (y ∷ es) sorted behind =
    nat_list_cmp_total.trans x.unique y.unique e.unique (less _ (first _ _ (first _ _ sorted)))
    (behind-all e y es (second _ _ sorted) (λ front last is. behind (x ∷ front) last (ap (λ (l : List Entry). x ∷ l) is)))

below-push : (u : List ℕ) (e : Entry) (es : List Entry) → name_cmp u e.unique ≡ Less → IsBelow u es → IsBelow u (es ++ e ∷ [])
below-push u e [] is below = both _ _ (is_less _ is) tt
below-push u e (x ∷ es) is below = both _ _ (first _ _ below) (below-push u e es is (second _ _ below))

sorted-push : (e : Entry) (es : List Entry) → IsSorted es → IsBehind es e → IsSorted (es ++ e ∷ [])
sorted-push e [] sorted behind = tt
sorted-push e (x ∷ es) sorted behind =
    both _ _ (below-push x.unique e es (behind-all e x es sorted behind) (first _ _ sorted))
    (sorted-push e es (second _ _ sorted) (λ front last is. behind (x ∷ front) last (ap (λ (l : List Entry). x ∷ l) is)))

-- an entry behind the last keeps the order
pub order-kept : (e : Entry) (es more : List Entry) → more ≡ es ++ e ∷ [] → IsInOrder es → IsBehind es e → IsInOrder more
order-kept e es more is order behind = subst IsInOrder (sym is) (in-order _ (sorted-push e es (ordered _ order) behind))
