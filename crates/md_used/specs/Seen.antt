-- What one more name adds to what was seen, and its fault.
use Rattle.std.specs.Prelude.{ℕ, ◌≡◌, ◌⊎◌, nat_lt, Bool, ◌&&◌, if◌then◌else◌, List, length, Option, Some, None}
use Rattle.std.specs.Str.{bytes_eq}
use Rattle.md_dirs.specs.Path.{path_of}
use Rattle.md_dirs.specs.declared.paths.Path.{Path}
use Rattle.md_dirs.specs.declared.paths.Place.{Place}
use Rattle.md_dirs.specs.declared.rows.Row.{Row}
use Rattle.md_name.specs.Names.{unique_of, is_message_name}
use Rattle.md_jobs.specs.declared.error.CoreError.{CoreError}
use Rattle.md_jobs.specs.declared.error.CoreError.TheVariants as core
use Rattle.md_used.specs.Loading.{is_bad_name, is_long_unique, most_unique_bytes}
use Rattle.md_used.specs.Paths.{is_tmp, is_message}
use Rattle.md_used.specs.Used.{is_among}

-- whether a path is that of a message of the name
abbrev pub is_message_of : List ℕ → Path → Bool
is_message_of u p = is_message p && bytes_eq (unique_of p.name) u

-- whether a path has the name in tmp
abbrev pub is_tmp_of : List ℕ → Path → Bool
is_tmp_of u p = is_tmp p.place && bytes_eq p.name u

-- the path of a row in some folder: what is looked for in a name doesn't depend on it
abbrev pub somewhere : Place → Row → Path
somewhere place row = path_of 0 place row.name

-- whether a name of new or cur is that of a message of the unique name
abbrev pub is_of : List ℕ → List ℕ → Bool
is_of u name = is_message_name name && bytes_eq (unique_of name) u

-- the fault of a message's name after messages of these unique names
abbrev pub message_fault : List (List ℕ) → List ℕ → Option CoreError
message_fault messages name =
    if is_message_name name && nat_lt most_unique_bytes (length (unique_of name)) then Some core.LongUnique
    else (if is_message_name name && is_among (unique_of name) messages then Some core.DuplicateUnique else None)

-- the fault of a path after messages of these unique names
abbrev pub fault_after : List (List ℕ) → Path → Option CoreError
fault_after messages p =
    if is_bad_name p.name then Some core.BadName
    else (if is_long_unique p then Some core.LongUnique
    else (if is_message p && is_among (unique_of p.name) messages then Some core.DuplicateUnique else None))

-- an error is the fault, or memory ran out
abbrev pub IsFault : Option CoreError → CoreError → Type 0
IsFault fault e = (e ≡ core.NoMemory) ⊎ (fault ≡ Some e)
