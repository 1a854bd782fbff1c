-- Where a name of a message is among names in order.
use Rattle.std.proofs.Common.{ℕ, ◌≡◌, ◌≢◌, ◌<◌, List, [], Some, Result, Ok, Err, IfOk, IfErr, Bor, length, slice_get, get_or}
use Rattle.std.proofs.Common.{refl, sym, ap, ◌∙◌, inl, inr, ltb-true, arith}
use Rattle.std.specs.Slice.{IsItemAt}
use Rattle.std.specs.List.Sorted.{IsSearchInRange, IsBinarySearchResult}
use Rattle.std.specs.declared.cmp.Ordering.{Ordering}
use Rattle.std.specs.declared.cmp.Ordering.TheVariants.{Less, Equal, Greater}
use Rattle.std.proofs.lemmas.Bool.{cases_lt}
use Rattle.std.proofs.lemmas.Cmp.{nat_list_cmp_total, tied_itself}
use Rattle.std.proofs.lemmas.List.Sorted.{searchable_from_sorted}
use Rattle.std.proofs.lemmas.Map.Lookups.{exact_bytes}
use Rattle.std.proofs.lemmas.Option.{slice_get-get_or, slice_get_read}
use Rattle.md_name.specs.Names.{unique_of}
use Rattle.md_dirs.specs.Index.{name_cmp}
use Rattle.md_system.specs.Shown.{AreInOrder, IsNowhere, HasAt}

-- a name that does not tie with another is another
apart : (a u : List ℕ) (o : Ordering) → o ≢ Equal → name_cmp a u ≡ o → a ≢ u
apart a u o other is same = other (sym is ∙ ap (λ x. name_cmp x u) same ∙ tied_itself nat_list_cmp_total u)

less-not : Less ≢ Equal
less-not e = cc

greater-not : Greater ≢ Equal
greater-not e = cc

pub searched : (u : List ℕ) (names : List (List ℕ)) → AreInOrder names → (r : Result ℕ ℕ) → IsSearchInRange r (length names)
    → IsBinarySearchResult (λ (name : List ℕ). name_cmp (unique_of name) u) names r
    → record { found : IfOk r (HasAt names u); within : IfOk r (λ at. at < length names); absent : IfErr r (λ _. IsNowhere names u) }
searched u names order (Ok at) within equal = record {
  found = record { name = get_or names at []; is = slice_get-get_or names at [] within; named = exact_bytes _ _ (equal []) };
  within = within;
  absent = tt;
}
searched u names order (Err at) within parted =
    let point = parted (searchable_from_sorted nat_list_cmp_total unique_of names u order) in
    record {
      found = tt;
      within = tt;
      absent = λ k d low. elim (cases_lt k at) [
        | inl before ↦ apart (unique_of (get_or names k d)) u Less less-not (point.0 k d (omega arith) before)
        | inr behind ↦ apart (unique_of (get_or names k d)) u Greater greater-not (point.1 k d behind low)
      ];
    }

-- what is lent at a position is the name there
pub item-get : (names : List (List ℕ)) (i : ℕ) (r : Bor (List ℕ)) → IsItemAt names i (Some r) → slice_get names i ≡ Some r.now
item-get names i r is = slice_get_read names _ i r.now refl (ltb-true _ _ (sym is.0)) is.1
