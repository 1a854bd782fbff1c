-- What is found of the rows of a directory as they lie, one after another.
use Rattle.std.proofs.Common.{ℕ, ◌≡◌, ◌+◌, ◌≤◌, List, [], ◌∷◌, ◌++◌, Some, true, map, take, length, slice_get, All, sym, ap, subst, ◌∙◌, arith}
use Rattle.std.specs.List.Sorted.{IsPermutation}
use Rattle.std.proofs.lemmas.List.{append_assoc, append-nil, length-map, take_all}
use Rattle.std.proofs.lemmas.List.Sorted.{All-permutation, IsPermutation-append_right}
use Rattle.std.proofs.lemmas.Option.{slice_get-get_or}
use Rattle.md_dirs.proofs.NameRows.{get-within}
use Rattle.md_dirs.proofs.Rowed.{get-map}
use Rattle.md_core.proofs.Values.{State, Path, Place, Row, file_by, path_of, place_index, is_in, row_of, rows_of, stamp_of, entries, entries_before}
use Rattle.md_core.proofs.Lists.Permuted.{mapped-moved}
use Rattle.md_core.proofs.Lists.Places.{take-one_more}
use Rattle.md_core.proofs.Worlds.Loading.Order.{entries_in, before-more}
use Rattle.md_core.proofs.Worlds.Loading.Rows.{passes, mapped, shown-path, shown-stamp}

-- What is found of entries doesn't hang on their order.
abbrev pub IsUnordered : (List (Path × ℕ) → Type 0) → Type 0
IsUnordered P = (es fs : List (Path × ℕ)) → IsPermutation es fs → P fs → P es

module _ (s : State) (f : ℕ) (p : Place) where
  -- Something is found of the entries of a directory's first rows as they lie: there is an order of its entries that these show.
  pub record IsThrough (P : List (Path × ℕ) → Type 0) (rows : List Row) (at : ℕ) : Type 0 where
    pub lying : List (Path × ℕ)
    pub moved : IsPermutation (entries_in s f p) lying
    pub shown : rows ≡ map (row_of s.files) lying
    pub found : P (take at lying)

  -- The same of the entries before the directory, and those.
  abbrev pub Behind : (List (Path × ℕ) → Type 0) → List (Path × ℕ) → Type 0
  Behind P es = P (entries_before s f (place_index p) ++ es)

  -- What follows of one more entry, that of a row.
  abbrev pub Follows : Row → (List (Path × ℕ) → Type 0) → (List (Path × ℕ) → Type 0) → Type 0
  Follows r P Q = (es : List (Path × ℕ)) (e : Path × ℕ) → e.0 ≡ path_of f p r.name → stamp_of (file_by s.files e.1) ≡ r.stamp → P es → Q (es ++ e ∷ [])

  module _ (rows : List Row) where
    pub lying-none : (P : List (Path × ℕ) → Type 0) → IsPermutation (rows_of s f p) rows → P [] → IsThrough P rows 0
    lying-none P lies none =
        let found = mapped-moved (row_of s.files) (entries_in s f p) rows lies in
        record { lying = found.0; moved = found.1; shown = found.2; found = none }

    pub behind-none : (P : List (Path × ℕ) → Type 0) → IsPermutation (rows_of s f p) rows → P (entries_before s f (place_index p)) →
        IsThrough (Behind P) rows 0
    behind-none P lies before = lying-none (Behind P) lies (subst P (sym (append-nil _)) before)

    module _ (P : List (Path × ℕ) → Type 0) (at : ℕ) (through : IsThrough P rows at) where
      all-inside : All (λ e. is_in f p e.0 ≡ true) through.lying
      all-inside = All-permutation (λ e. is_in f p e.0 ≡ true) (entries_in s f p) through.lying through.moved
          (λ k d h. passes (λ e. is_in f p e.0) (entries s.names) k _ (slice_get-get_or (entries_in s f p) k d h))

      -- one more row
      pub lying-row : (Q : List (Path × ℕ) → Type 0) (r : Row) → slice_get rows at ≡ Some r → Follows r P Q → IsThrough Q rows (at + 1)
      lying-row Q r is follows =
          let lying = through.lying in
          let got = mapped (row_of s.files) (slice_get lying at) r
          (sym (get-map (row_of s.files) lying at) ∙ ap (λ rows. slice_get rows at) (sym through.shown) ∙ is) in
          let e = got.0 in
          let within = get-within lying at e got.1 in
          let inside : is_in f p e.0 ≡ true = subst (λ (x : Path × ℕ). is_in f p x.0 ≡ true) within.1 (all-inside at e within.0) in
          record {
            lying = lying;
            moved = through.moved;
            shown = through.shown;
            found = subst Q (sym (take-one_more lying at e got.1))
                (follows (take at lying) e (shown-path s f p e r inside got.2) (shown-stamp s f p e r got.2) through.found);
          }

      -- behind the last row it is found of all entries of the directory
      pub lying-all : length rows ≤ at → IsUnordered P → P (entries_in s f p)
      lying-all end unordered =
          let lying = through.lying in
          let long : length rows ≡ length lying = ap length through.shown ∙ length-map lying (row_of s.files) in
          unordered (entries_in s f p) lying through.moved (subst P (take_all at lying (omega (arith, end, long))) through.found)

    module _ (P : List (Path × ℕ) → Type 0) (at : ℕ) (through : IsThrough (Behind P) rows at) where
      abbrev before : List (Path × ℕ)
      before = entries_before s f (place_index p)

      pub behind-row : (Q : List (Path × ℕ) → Type 0) (r : Row) → slice_get rows at ≡ Some r → Follows r P Q → IsThrough (Behind Q) rows (at + 1)
      behind-row Q r is follows = lying-row (Behind P) at through (Behind Q) r is
          (λ es e path stamp found. subst Q (append_assoc before es (e ∷ [])) (follows (before ++ es) e path stamp found))

      pub behind-all : length rows ≤ at → IsUnordered P → P (entries_before s f (place_index p + 1))
      behind-all end unordered = subst P (sym (before-more s f p))
          (lying-all (Behind P) at through end
          (λ es fs moved. unordered (before ++ es) (before ++ fs) (IsPermutation-append_right before es fs moved)))
