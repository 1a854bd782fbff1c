-- Names that are told apart by their unique parts.
use Rattle.std.specs.Prelude.{ℕ, ◌≡◌, List, Option, IsSome}
use Rattle.md_name.specs.Names.{unique_of}
use Rattle.md_dirs.specs.Path.{path_of}
use Rattle.md_dirs.specs.State.{State, file_at}
use Rattle.md_dirs.specs.declared.paths.Place.{Place}

-- no two names that have a file have one unique part
abbrev pub EachOnce : (List ℕ → Option ℕ) → Type 0
EachOnce file_of = (a b : List ℕ) → IsSome (file_of a) → IsSome (file_of b) → unique_of a ≡ unique_of b → a ≡ b

-- a directory holds each unique part once
abbrev pub HoldsEachOnce : State → ℕ → Place → Type 0
HoldsEachOnce s folder place = EachOnce (λ name. file_at s (path_of folder place name))
