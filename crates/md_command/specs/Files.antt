-- The names of a directory.
use Rattle.std.specs.Prelude.{ℕ, ◌-◌, Bool, true, false, ◌==◌, ◌&&◌, List, [], ◌∷◌, length, get_or, take, Option, None, Some, if◌then◌else◌}

-- bytes without the NUL that ends them, if one does
abbrev pub unended : List ℕ → List ℕ
unended line = if get_or line (length line - 1) 1 == 0 then take (length line - 1) line else line

-- whether a name is none of a file: it is empty, `.` or `..`
abbrev pub is_none : List ℕ → Bool
is_none [] = true
is_none (b ∷ []) = b == 46
is_none (b ∷ c ∷ []) = b == 46 && c == 46
is_none (b ∷ c ∷ d ∷ name) = false

-- the name that was read with its NUL, if it is one of a file
abbrev pub name_in : List ℕ → Option (List ℕ)
name_in line = if is_none (unended line) then None else Some (unended line)

-- one or none
abbrev pub alone : Option (List ℕ) → List (List ℕ)
alone None = []
alone (Some name) = name ∷ []

-- the names that a line of a directory adds
abbrev pub names_in : List ℕ → List (List ℕ)
names_in line = alone (name_in line)
