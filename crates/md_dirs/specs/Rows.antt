-- What a directory shows: its names in order, each with its file's stamp and size.
use Rattle.std.specs.Prelude.{ℕ, ◌-◌, List, [], ◌∷◌, Option, Some, None, Bool, true, ◌==◌, ◌&&◌, nat_eq, nat_le, map, filter, find, length, drop}
use Rattle.std.specs.List.{starts_with}
use Rattle.std.specs.FinMap as finmap
use Rattle.md_dirs.specs.Path.{place_index}
use Rattle.md_dirs.specs.State.{State, file_by}
use Rattle.md_dirs.specs.declared.paths.Path.{Path}
use Rattle.md_dirs.specs.declared.paths.Place.{Place}
use Rattle.md_dirs.specs.declared.paths.File.{File}
use Rattle.md_dirs.specs.declared.rows.Row.{Row}

-- the row of a name and its file. A name without a file is in no sound state
abbrev pub row_by : List ℕ → Option File → Row
row_by name None = record { name = name; stamp = 0; size = 0 }
row_by name (Some file) = record { name = name; stamp = file.stamp; size = length file.bytes }

-- the row of a path and the number of its file
abbrev pub row_of : List (Option File) → Path × ℕ → Row
row_of files e = row_by e.0.name (file_by files e.1)

-- whether a path is in a directory
abbrev pub is_in : ℕ → Place → Path → Bool
is_in folder place p = p.folder == folder && place_index p.place == place_index place

-- the rows of a directory, in order of the bytes of their names
abbrev pub rows_of : State → ℕ → Place → List Row
rows_of s folder place =
    map (row_of s.files) (filter (λ e. is_in folder place e.0) (finmap.entries s.names))

-- whether a unique name ends where this begins: at the end of the name, or at a colon
abbrev pub ends_unique : List ℕ → Bool
ends_unique [] = true
ends_unique (b ∷ bs) = b == 58

-- maildir(5), "unique:info": whether a name is a unique name, or a unique name, a colon and more
abbrev pub is_named : List ℕ → List ℕ → Bool
is_named unique name = starts_with nat_eq name unique && ends_unique (drop (length unique) name)

-- the first row of a directory that has the unique name
abbrev pub row_named : List ℕ → List Row → Option Row
row_named unique rows = find (λ row. is_named unique row.name) rows

-- whether a row's file has not been used for so many seconds at a moment. A moment before the stamp counts as no time
abbrev pub is_old : ℕ → ℕ → Row → Bool
is_old now seconds row = nat_le seconds (now - row.stamp)

-- the names of the rows whose files have not been used for so many seconds
abbrev pub old_names : ℕ → ℕ → List Row → List (List ℕ)
old_names now seconds rows = map (λ row. row.name) (filter (is_old now seconds) rows)
