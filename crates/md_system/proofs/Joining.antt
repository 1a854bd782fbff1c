-- What is listed of a folder.
use Rattle.std.proofs.Common.{ℕ, zero, suc, ◌≡◌, ◌<◌, ◌++◌, Bool, true, false, cond, not, ◌||◌, List, [], ◌∷◌, Result, Ok, Err, length, get_or, map, filter}
use Rattle.std.proofs.Common.{refl, sym, ap, subst, ◌∙◌, inl, inr, arith}
use Rattle.std.specs.List.Sorted.{IsPermutation, IsSearchInRange, IsBinarySearchResult}
use Rattle.std.specs.Ordering.{is_eq}
use Rattle.std.specs.Result.{is_ok}
use Rattle.std.specs.Str.{bytes_eq}
use Rattle.std.specs.declared.cmp.Ordering.{Ordering}
use Rattle.std.specs.declared.cmp.Ordering.TheVariants.{Less, Equal, Greater}
use Rattle.std.proofs.lemmas.Bool.{cases_lt}
use Rattle.std.proofs.lemmas.Cmp.{nat_list_cmp_total}
use Rattle.std.proofs.lemmas.List.Sorted.{searchable_from_sorted, list_any-IsPermutation, IsPermutation-map, IsPermutation-append, IsPermutation-trans}
use Rattle.std.proofs.lemmas.Map.Text.{is_eq-slice_cmp}
use Rattle.md_name.specs.Names.{unique_of}
use Rattle.md_dirs.specs.Index.{name_cmp}
use Rattle.md_dirs.specs.declared.paths.Place.{Place}
use Rattle.md_dirs.specs.declared.paths.Place.TheVariants.{New, Cur}
use Rattle.md_system.specs.Listings.{has_unique, listed_in, listed_of, names_of, IsInOrder}
use Rattle.md_system.specs.declared.listed.Listed.{Listed}
use Rattle.md_system.proofs.Permuted.{IsPermutation-filter}

or-true : (b : Bool) → (b || true) ≡ true
or-true true = refl
or-true false = refl

-- a name that has the unique part is among the names
some-at : (u : List ℕ) (ms : List Listed) (k : ℕ) (d : Listed) → k < length ms → bytes_eq (unique_of (get_or ms k d).name) u ≡ true →
    has_unique (names_of ms) u ≡ true
some-at u [] k d within is = absurd (omega arith)
some-at u (m ∷ ms) zero d within is = ap (λ b. b || has_unique (names_of ms) u) is
some-at u (m ∷ ms) (suc k) d within is =
    ap (λ b. bytes_eq (unique_of m.name) u || b) (some-at u ms k d (omega arith) is) ∙ or-true (bytes_eq (unique_of m.name) u)

none-at : (u : List ℕ) (ms : List Listed) → ((k : ℕ) (d : Listed) → k < length ms → bytes_eq (unique_of (get_or ms k d).name) u ≡ false) →
    has_unique (names_of ms) u ≡ false
none-at u [] none = refl
none-at u (m ∷ ms) none = λ i. none 0 m (omega arith) i || none-at u ms (λ k d within. none (suc k) d (omega arith)) i

-- names tie where they are the same
tells : (a u : List ℕ) (o : Ordering) → name_cmp a u ≡ o → bytes_eq a u ≡ is_eq o
tells a u o is = sym (is_eq-slice_cmp a u) ∙ ap is_eq is

pub held : (u : List ℕ) (ms : List Listed) → IsInOrder ms → (r : Result ℕ ℕ) → IsSearchInRange r (length ms) →
    IsBinarySearchResult (λ (m : Listed). name_cmp (unique_of m.name) u) ms r → is_ok r ≡ has_unique (names_of ms) u
held u ms order (Ok at) within equal = sym (some-at u ms at (record { place = New; name = [] }) within (tells _ u Equal (equal _)))
held u ms order (Err at) within parted =
    let point = parted (searchable_from_sorted nat_list_cmp_total (λ (m : Listed). unique_of m.name) ms u order) in
    sym (none-at u ms (λ k d low. elim (cases_lt k at) [
      | inl before ↦ tells _ u Less (point.0 k d (omega arith) before)
      | inr behind ↦ tells _ u Greater (point.1 k d behind low)
    ]))

-- the names of names that are listed
names-listed : (place : Place) (names : List (List ℕ)) → names_of (map (listed_in place) names) ≡ names
names-listed place [] = refl
names-listed place (name ∷ names) = ap (λ (ns : List (List ℕ)). name ∷ ns) (names-listed place names)

filter-listed : (q : List ℕ → Bool) (place : Place) (names : List (List ℕ)) →
    filter (λ (m : Listed). q m.name) (map (listed_in place) names) ≡ map (listed_in place) (filter q names)
filter-listed q place [] = refl
filter-listed q place (name ∷ names) = by (q name) (filter-listed q place names)
  where
    by : (b : Bool) {rest : List Listed} → rest ≡ map (listed_in place) (filter q names) →
        cond b (listed_in place name ∷ rest) rest ≡ map (listed_in place) (cond b (name ∷ filter q names) (filter q names))
    by true is = ap (λ (ms : List Listed). listed_in place name ∷ ms) is
    by false is = is

pub listing-is : (news curs : List (List ℕ)) (in_cur in_new unseen all listing : List Listed) → IsPermutation (map (listed_in Cur) curs) in_cur →
    IsPermutation (map (listed_in New) news) in_new → unseen ≡ filter (λ (m : Listed). not (has_unique (names_of in_cur) (unique_of m.name))) in_new →
    all ≡ in_cur ++ unseen → IsPermutation all listing → IsPermutation (listed_of news curs) listing
listing-is news curs in_cur in_new unseen all listing cur_is new_is unseen_is all_is same =
    let q : List ℕ → Bool = λ name. not (has_unique curs (unique_of name)) in
    let of_cur : (u : List ℕ) → has_unique (names_of in_cur) u ≡ has_unique curs u =
    λ u. sym (list_any-IsPermutation (λ name. bytes_eq (unique_of name) u) (names_of (map (listed_in Cur) curs)) (names_of in_cur)
    (IsPermutation-map (λ (m : Listed). m.name) _ _ cur_is)) ∙ ap (λ (names : List (List ℕ)). has_unique names u) (names-listed Cur curs) in
    let kept : unseen ≡ filter (λ (m : Listed). q m.name) in_new =
    unseen_is ∙ ap (λ (test : Listed → Bool). filter test in_new) (λ i m. not (of_cur (unique_of m.name) i)) in
    let of_new : IsPermutation (map (listed_in New) (filter q news)) unseen =
    subst (λ (ms : List Listed). IsPermutation ms unseen) (filter-listed q New news)
    (subst (λ (ms : List Listed). IsPermutation (filter (λ (m : Listed). q m.name) (map (listed_in New) news)) ms) (sym kept)
    (IsPermutation-filter (λ (m : Listed). q m.name) _ _ new_is)) in
    IsPermutation-trans _ _ _ (IsPermutation-append _ _ _ _ cur_is of_new) (subst (λ (ms : List Listed). IsPermutation ms listing) all_is same)
