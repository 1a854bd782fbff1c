-- Directories as finite maps: of the names of each directory, and of the paths of all.
use Rattle.std.specs.Prelude.{ℕ, suc, ◌≡◌, ◌+◌, ◌<◌, length, slice_index_or, ◌*◌, ◌/◌, ◌%◌, List}
use Rattle.std.specs.Prelude.{[], ◌∷◌, ◌++◌, map, filter, slice_get, unwrap_or, Option, All}
use Rattle.std.specs.declared.cmp.Ordering.{Ordering}
use Rattle.std.specs.Coded.{Coded, coded_ℕ, coded_list}
use Rattle.std.specs.Ordering.{nat_cmp}
use Rattle.std.specs.Cmp.Lexicographic.{slice_cmp}
use Rattle.std.specs.Str.{bytes_eq}
use Rattle.std.specs.Map.{lookup}
use Rattle.std.specs.FinMap as finmap
use Rattle.md_dirs.specs.Path.{path_cmp, path_of, place_index}
use Rattle.md_dirs.specs.State.{path_code, place_by}
use Rattle.md_dirs.specs.Rows.{is_in}
use Rattle.md_dirs.specs.declared.paths.Path.{Path}
use Rattle.md_dirs.specs.declared.paths.Place.{Place}

-- names go by their bytes
abbrev pub name_cmp : List ℕ → List ℕ → Ordering
name_cmp = slice_cmp nat_cmp

-- the names of one directory, each with the number of its file
abbrev pub NameMap : Type 0
NameMap = finmap.FinMap name_cmp ℕ

-- names of a directory as lists of numbers
abbrev pub name_code : Coded NameMap
name_code = finmap.code (coded_list coded_ℕ) coded_ℕ

-- rows by their positions
abbrev pub rows_at : List (List ℕ × ℕ) → List ℕ → List (List ℕ × ℕ)
rows_at rows order = map (λ i. slice_index_or rows i ([], 0)) order

-- positions of rows, in order of the names: they lie within, and the rows at them are those that the names' map lists
pub record IsOrderOf (rows : List (List ℕ × ℕ)) (order : List ℕ) : Type 0 where
  pub within : All (λ i. i < length rows) order
  pub lists : rows_at rows order ≡ finmap.entries {R = name_cmp} (finmap.from_entries rows)

-- the number at a name, as the table looks it up
abbrev pub get_name : List (List ℕ × ℕ) → List ℕ → Option ℕ
get_name es q = lookup (bytes_eq q) es

-- all paths, each with the number of its file
abbrev pub PathMap : Type 0
PathMap = finmap.FinMap path_cmp ℕ

-- paths as lists of numbers
abbrev pub map_code : Coded PathMap
map_code = finmap.code path_code coded_ℕ

-- the number of a directory: those of a folder are side by side, in their order
abbrev pub directory_number : ℕ → Place → ℕ
directory_number folder place = 3 * folder + place_index place

-- the path of a name in the directory of a number
abbrev pub path_at : ℕ → List ℕ → Path
path_at number name = path_of (number / 3) (place_by (number % 3)) name

-- the rows of directories from a number on, by their paths
abbrev pub rows_from : ℕ → List NameMap → List (Path × ℕ)
rows_from number [] = []
rows_from number (d ∷ ds) = map (λ e. (path_at number e.0, e.1)) (finmap.entries d) ++ rows_from (suc number) ds

-- the paths that directories have
abbrev pub names_of : List NameMap → PathMap
names_of ds = finmap.from_sorted (rows_from 0 ds)

-- the directory of a number. One past the last has no name
abbrev pub directory_at : List NameMap → ℕ → NameMap
directory_at ds number = unwrap_or (slice_get ds number) finmap.empty

-- a row by its name
abbrev pub named_row : Path × ℕ → List ℕ × ℕ
named_row e = (e.0.name, e.1)

-- the rows of a directory, by their names
abbrev pub rows_in : PathMap → ℕ → Place → List (List ℕ × ℕ)
rows_in names folder place = map named_row (filter (λ e. is_in folder place e.0) (finmap.entries names))
