-- What rows of a table are sorted by.
use Rattle.std.specs.Prelude.{ℕ, ◌≡◌, ◌<◌, List, [], ◌∷◌, All, length, map, slice_index_or}
use Rattle.md_dirs.specs.Keys.{IsKeyOf}

-- the key of a name, and the position of its row
abbrev pub Sortable : Type 0
Sortable = ℕ × ℕ

abbrev pub row_number : Sortable → ℕ
row_number x = x.1

-- the row at the position
abbrev pub row_at : List (List ℕ × ℕ) → Sortable → List ℕ × ℕ
row_at rows x = slice_index_or rows x.1 ([], 0)

-- what rows are sorted by: the key, and behind it the name
abbrev pub key_and_name : List (List ℕ × ℕ) → Sortable → List ℕ
key_and_name rows x = x.0 ∷ (row_at rows x).0

pub record IsSortable (rows : List (List ℕ × ℕ)) (x : Sortable) : Type 0 where
  pub within : x.1 < length rows
  pub key : IsKeyOf x.0 (row_at rows x).0

-- all rows, in their order
pub record AreSortable (rows : List (List ℕ × ℕ)) (xs : List Sortable) : Type 0 where
  pub each : All (IsSortable rows) xs
  pub rows_are : map (row_at rows) xs ≡ rows
