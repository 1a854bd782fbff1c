-- The state of directories: a number of folders, a finite map from paths to the numbers of files, and the files in the order of their
-- making.
use Rattle.std.specs.Prelude.{ℕ, zero, suc, ◌≡◌, ◌<◌, refl, List, [], Option, Some, Bool, nat_lt, slice_get, IsSome}
use Rattle.std.specs.Option.{option_flatten, option_map, option_and_then}
use Rattle.std.specs.Coded.{Coded, code_by, coded×, coded_ℕ, coded_list, coded_option}
use Rattle.std.specs.FinMap as finmap
use Rattle.md_dirs.specs.Path.{path_cmp, place_index}
use Rattle.md_dirs.specs.declared.paths.Path.{Path}
use Rattle.md_dirs.specs.declared.paths.Place.{Place}
use Rattle.md_dirs.specs.declared.paths.Place.TheVariants.{Tmp, New, Cur}
use Rattle.md_dirs.specs.declared.paths.File.{File}

-- what directories hold, as contracts see it
pub record State : Type 0 where
  -- the folders are numbered from 0
  pub folders : ℕ
  -- the number of the file that a path names: two names of one file have one number
  pub names : finmap.FinMap path_cmp ℕ
  -- the files by their numbers. One that no path names any more is gone, and its number is not used again
  pub files : List (Option File)

-- directories with no file
abbrev pub bare : ℕ → State
bare folders = record { folders = folders; names = finmap.empty; files = [] }

-- whether the folder of a path is there
abbrev pub has_folder : State → Path → Bool
has_folder s p = nat_lt p.folder s.folders

-- the number of the file at a path
abbrev pub file_at : State → Path → Option ℕ
file_at s p = finmap.get s.names p

-- the file of a number, where it is there
abbrev pub file_by : List (Option File) → ℕ → Option File
file_by files n = option_flatten (slice_get files n)

-- the bytes of the file at a path
abbrev pub bytes_at_path : State → Path → Option (List ℕ)
bytes_at_path s p = option_map (λ (f : File). f.bytes) (option_and_then (file_by s.files) (file_at s p))

-- Each path lies in a folder that is there and names a file that is there, and each file that is there has a path.
pub record IsSound (s : State) : Type 0 where
  pub filed : (p : Path) (n : ℕ) → file_at s p ≡ Some n → IsSome (file_by s.files n)
  pub has_path : (n : ℕ) → IsSome (file_by s.files n) → (p : Path) × (file_at s p ≡ Some n)
  pub housed : (p : Path) (n : ℕ) → file_at s p ≡ Some n → p.folder < s.folders

-- What follows writes a state as tuples of numbers and lists, as a type that contracts see as a state asks for it.
abbrev pub place_by : ℕ → Place
place_by zero = Tmp
place_by (suc zero) = New
place_by (suc (suc n)) = Cur

-- a path as a tuple
abbrev pub path_code : Coded Path
path_code = code_by (ℕ × (Place × List ℕ)) (coded× coded_ℕ (coded× (code_by ℕ coded_ℕ place_index place_by back) (coded_list coded_ℕ)))
    (λ p. (p.folder, (p.place, p.name))) (λ t. record { folder = t.0; place = t.1.0; name = t.1.1 }) (λ _. refl)
  where
    back : (p : Place) → place_by (place_index p) ≡ p
    back Tmp = refl
    back New = refl
    back Cur = refl

-- a file as a tuple
abbrev pub file_code : Coded File
file_code = code_by (List ℕ × ℕ) (coded× (coded_list coded_ℕ) coded_ℕ)
    (λ f. (f.bytes, f.stamp)) (λ t. record { bytes = t.0; stamp = t.1 }) (λ _. refl)

-- a state as a tuple
abbrev pub state_code : Coded State
state_code = code_by (ℕ × (finmap.FinMap path_cmp ℕ × List (Option File)))
    (coded× coded_ℕ (coded× (finmap.code path_code coded_ℕ) (coded_list (coded_option file_code))))
    (λ s. (s.folders, (s.names, s.files))) (λ t. record { folders = t.0; names = t.1.0; files = t.1.1 }) (λ _. refl)

-- What contracts see of plain directories: their state, and how many calls there were.
pub record Counted : Type 0 where
  pub state : State
  pub calls : ℕ

-- a state and a number as a tuple
abbrev pub counted_code : Coded Counted
counted_code = code_by (State × ℕ) (coded× state_code coded_ℕ)
    (λ c. (c.state, c.calls)) (λ t. record { state = t.0; calls = t.1 }) (λ _. refl)
