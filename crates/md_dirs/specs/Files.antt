-- Files by their numbers, each with the number of its names.
use Rattle.std.specs.Prelude.{ℕ, ◌≡◌, ◌+◌, ◌-◌, ◌==◌, ◌++◌, List, Option, Some}
use Rattle.std.specs.Prelude.{None, if◌then◌else◌, nat_le, slice_get, slice_set, map, filter, length}
use Rattle.std.specs.Option.{option_flatten, option_map}
use Rattle.std.specs.FinMap as finmap
use Rattle.md_dirs.specs.State.{State, IsSound, file_by}
use Rattle.md_dirs.specs.Rows.{row_by}
use Rattle.md_dirs.specs.declared.rows.Row.{Row}
use Rattle.md_dirs.specs.Index.{PathMap}
use Rattle.md_dirs.specs.declared.paths.File.{File}
use Rattle.md_dirs.specs.declared.files.Kept.{Kept}

-- the files, without the numbers of their names
abbrev pub files_of : List (Option Kept) → List (Option File)
files_of slots = map (option_map (λ (k : Kept). k.file)) slots

-- the slot of a number
abbrev pub slot_at : List (Option Kept) → ℕ → Option Kept
slot_at slots n = option_flatten (slice_get slots n)

-- how many names a file is said to have
abbrev pub names_held : Option Kept → ℕ
names_held None = 0
names_held (Some k) = k.names

-- the state that paths and files are
abbrev pub kept_state : ℕ → PathMap → List (Option Kept) → State
kept_state folders names slots = record { folders = folders; names = names; files = files_of slots }

-- how many paths name the file of a number
abbrev pub paths_of : PathMap → ℕ → ℕ
paths_of names n = length (filter (λ e. e.1 == n) (finmap.entries names))

-- sound directories in which each file is said to have as many names as it has
pub record IsCounted (folders : ℕ) (names : PathMap) (slots : List (Option Kept)) : Type 0 where
  pub sound : IsSound (kept_state folders names slots)
  pub counted : (n : ℕ) → paths_of names n ≡ names_held (slot_at slots n)

-- a file with more bytes at its end
abbrev pub grown_slot : List ℕ → ℕ → Option Kept → Option Kept
grown_slot more now None = None
grown_slot more now (Some k) = Some (record { file = record { bytes = k.file.bytes ++ more; stamp = now }; names = k.names })

-- a file with one more name
abbrev pub named_again : Option Kept → Option Kept
named_again None = None
named_again (Some k) = Some (record k { names = k.names + 1 })

-- a file with so many names
abbrev pub with_names : ℕ → Option Kept → Option Kept
with_names names None = None
with_names names (Some k) = Some (record k { names = names })

-- a file with one name less, or none where that was its last
abbrev pub named_less : Option Kept → Option Kept
named_less None = None
named_less (Some k) = if nat_le k.names 1 then None else Some (record k { names = k.names - 1 })

-- the files, where that of a number has one name less
abbrev pub let_go : Option ℕ → List (Option Kept) → List (Option Kept)
let_go None slots = slots
let_go (Some n) slots = slice_set slots n (named_less (slot_at slots n))

-- what a directory shows of a name and the number of its file
abbrev pub name_row : List (Option File) → List ℕ × ℕ → Row
name_row files e = row_by e.0 (file_by files e.1)
