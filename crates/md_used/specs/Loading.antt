-- Which directories a world may begin with: no name has a fault. They are looked at in the order of folder, then tmp, new and cur, then
-- name.
use Rattle.std.specs.Prelude.{ℕ, List, [], ◌∷◌, Option, Some, None, Bool, ◌&&◌, ◌||◌, ◌==◌, nat_lt, length, if◌then◌else◌}
use Rattle.std.specs.List.{list_any}
use Rattle.std.specs.Option.{option_or}
use Rattle.std.specs.Str.{bytes_eq}
use Rattle.std.specs.FinMap as finmap
use Rattle.md_dirs.specs.State.{State}
use Rattle.md_dirs.specs.declared.paths.Path.{Path}
use Rattle.md_name.specs.Names.{unique_of, is_slash, is_terminator}
use Rattle.md_jobs.specs.declared.error.CoreError.{CoreError}
use Rattle.md_jobs.specs.declared.error.CoreError.TheVariants as core
use Rattle.md_used.specs.Paths.{is_message}

-- the longest file name of the usual systems, in bytes
abbrev pub most_name_bytes : ℕ
most_name_bytes = 255

-- a name that no world takes: empty, too long, or with a slash, NUL, LF or CR
abbrev pub is_bad_name : List ℕ → Bool
is_bad_name name = length name == 0 || nat_lt most_name_bytes (length name) || list_any (λ b. is_slash b || is_terminator b) name

-- the longest unique part: with `:2,` and 52 letters it makes 255 bytes
abbrev pub most_unique_bytes : ℕ
most_unique_bytes = 200

-- whether a path is a message's whose unique part is too long
abbrev pub is_long_unique : Path → Bool
is_long_unique p = is_message p && nat_lt most_unique_bytes (length (unique_of p.name))

-- whether two paths are messages of one unique name
abbrev pub is_same_message : Path → Path → Bool
is_same_message p q = is_message p && is_message q && bytes_eq (unique_of p.name) (unique_of q.name)

-- the fault of a path, after the paths before it
abbrev pub fault_of : List Path → Path → Option CoreError
fault_of earlier p =
    if is_bad_name p.name then Some core.BadName
    else (if is_long_unique p then Some core.LongUnique
    else (if list_any (is_same_message p) earlier then Some core.DuplicateUnique else None))

-- the first fault of paths in turn, after those before them
abbrev pub first_fault : List Path → List (Path × ℕ) → Option CoreError
first_fault earlier [] = None
first_fault earlier (e ∷ es) = option_or (fault_of earlier e.0) (first_fault (e.0 ∷ earlier) es)

-- where directories are refused, out of memory aside
abbrev pub load_refusal : State → Option CoreError
load_refusal s = first_fault [] (finmap.entries s.names)
