-- What a quick look at directories finds.
use Rattle.std.specs.Prelude.{ℕ, ◌≡◌, ◌≢◌, ◌<◌, ◌⊎◌, List, Bool, true, false, Some, None, ◌||◌, length}
use Rattle.std.specs.List.{list_any}
use Rattle.md_dirs.specs.Once.{HoldsEachOnce}
use Rattle.md_dirs.specs.Path.{path_of}
use Rattle.md_dirs.specs.Rows.{rows_of, row_named}
use Rattle.md_dirs.specs.State.{State, file_at}
use Rattle.md_dirs.specs.declared.paths.Path.{Path}
use Rattle.md_dirs.specs.declared.paths.Place.{Place}
use Rattle.md_dirs.specs.declared.paths.Place.TheVariants.{New, Cur}
use Rattle.md_name.specs.Names.{unique_of, is_message_name}
use Rattle.md_used.specs.Loading.{is_bad_name, is_long_unique}
use Rattle.md_used.specs.Paths.{is_tmp}
use Rattle.md_core.specs.Runs.{clock_by}

-- whether a path has a fault by itself
abbrev pub has_fault : Path → Bool
has_fault p = is_bad_name p.name || is_long_unique p

-- no entry has a fault by itself, and the greatest of their stamps is this
pub record IsQuickLook (s : State) (es : List (Path × ℕ)) (found : ℕ) : Type 0 where
  pub clock : found ≡ clock_by s es
  pub good : list_any (λ e. has_fault e.0) es ≡ false

-- of the folders before a number, no other has a name in new or in cur
abbrev pub AreBare : State → ℕ → ℕ → Type 0
AreBare s folders only = (k : ℕ) (place : Place) → k < folders → is_tmp place ≡ false → k ≢ only → length (rows_of s k place) ≡ 0

-- no name of the other directory has the unique part of a message of the one
abbrev pub AreFree : State → ℕ → Place → Place → Type 0
AreFree s folder place other = (name : List ℕ) (n : ℕ) → file_at s (path_of folder place name) ≡ Some n → is_message_name name ≡ true →
    row_named (unique_of name) (rows_of s folder other) ≡ None

-- no two messages of a folder have one unique part
pub record AreSingle (s : State) (folder : ℕ) : Type 0 where
  pub new : HoldsEachOnce s folder New
  pub cur : HoldsEachOnce s folder Cur
  pub free : AreFree s folder New Cur ⊎ AreFree s folder Cur New
