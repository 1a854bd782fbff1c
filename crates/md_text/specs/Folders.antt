-- Folders, by their names and their numbers.
use Rattle.std.specs.Prelude.{ℕ, ◌≡◌, List, map, position, Option}
use Rattle.std.specs.Str.{bytes_eq}
use Rattle.std.specs.Global.{Vec}
use Rattle.md_dirs.specs.Index.{get_name}

-- the names of folders, as the program holds them
abbrev pub names_of : List (Vec ℕ) → List (List ℕ)
names_of names = map (λ name. name.items) names

-- the number of the folder with a name
unfoldable pub place_of : List (List ℕ) → List ℕ → Option ℕ
place_of folders name = position (λ other. bytes_eq other name) folders

-- a table has the number of each folder by its name, and nothing else
abbrev pub ArePlaces : List (Vec ℕ) → List (List ℕ × ℕ) → Type 0
ArePlaces names places = (name : List ℕ) → get_name places name ≡ place_of (names_of names) name
