-- The names of directories, with the numbers of their files.
use Rattle.std.specs.Prelude.{ℕ, List, [], Option, Some, None, slice_get}
use Rattle.std.specs.Str.{bytes_eq}
use Rattle.indexmap.specs.IndexMap.{get, keys}
use Rattle.md_kept.specs.declared.directory.Directory.{Directory}
use Rattle.md_kept.specs.declared.paths.Paths.{Paths}

-- the names of a directory
abbrev pub names_of : Directory → List (List ℕ)
names_of d = keys d.files

-- the number of the file that a name names there
abbrev pub file_of : Directory → List ℕ → Option ℕ
file_of d name = get bytes_eq d.files name

-- of a directory none of whose names was ever there, nothing is kept
abbrev pub names_by : Option Directory → List (List ℕ)
names_by None = []
names_by (Some d) = names_of d

abbrev pub file_by : Option Directory → List ℕ → Option ℕ
file_by None name = None
file_by (Some d) name = file_of d name

-- by the number of a directory
abbrev pub directory_in : Paths → ℕ → Option Directory
directory_in t number = slice_get t.directories.items number

-- the names of the directory of a number
abbrev pub names_in : Paths → ℕ → List (List ℕ)
names_in t number = names_by (directory_in t number)

-- the number of the file that a name names there
abbrev pub file_named : Paths → ℕ → List ℕ → Option ℕ
file_named t number name = file_by (directory_in t number) name
