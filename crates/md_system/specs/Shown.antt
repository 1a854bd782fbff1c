-- What a reading of a directory shows of a message.
use Rattle.std.specs.Prelude.{◌≡◌, ◌≢◌, ℕ, List, Some, All, Contains, slice_get}
use Rattle.std.specs.List.Sorted.{IsSortedByKey}
use Rattle.md_name.specs.Names.{unique_of}
use Rattle.md_dirs.specs.Index.{name_cmp}
use Rattle.md_system.specs.declared.found.Found.{Found}
use Rattle.md_system.specs.declared.found.Found.TheVariants as found

-- names in order of their unique parts
abbrev pub AreInOrder : List (List ℕ) → Type 0
AreInOrder names = IsSortedByKey unique_of name_cmp names

-- no name is of the message
abbrev pub IsNowhere : List (List ℕ) → List ℕ → Type 0
IsNowhere names unique = All (λ name. unique_of name ≢ unique) names

-- the name at a position is of the message
pub record HasAt (names : List (List ℕ)) (unique : List ℕ) (at : ℕ) : Type 0 where
  pub name : List ℕ
  pub is : slice_get names at ≡ Some name
  pub named : unique_of name ≡ unique

-- two names are of the message
pub record HasTwo (names : List (List ℕ)) (unique : List ℕ) : Type 0 where
  pub first : ℕ
  pub second : ℕ
  pub apart : first ≢ second
  pub here : HasAt names unique first
  pub there : HasAt names unique second

-- what is found of a message, by position
abbrev pub IsFound : List (List ℕ) → List ℕ → Found ℕ → Type 0
IsFound names unique found.None = IsNowhere names unique
IsFound names unique (found.One at) = HasAt names unique at
IsFound names unique found.Many = HasTwo names unique

-- what these names show of a message
abbrev pub IsShown : List (List ℕ) → List ℕ → Found (List ℕ) → Type 0
IsShown names unique found.None = IsNowhere names unique
IsShown names unique (found.One name) = Contains names name × (unique_of name ≡ unique)
IsShown names unique found.Many = HasTwo names unique
