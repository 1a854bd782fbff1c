-- The six directory calls, each as its refusal and the state after it.
use Rattle.std.specs.Prelude.{ℕ, ◌≡◌, ◌+◌, ◌==◌, List, [], ◌∷◌, ◌++◌, Option, Some, None, Bool}
use Rattle.std.specs.Prelude.{false, Result, Ok, Err, OnOk, OnErr, IsErrOf, if◌then◌else◌, nat_lt, slice_set, length, is_some}
use Rattle.std.specs.List.{list_any}
use Rattle.std.specs.FinMap as finmap
use Rattle.md_dirs.specs.State.{State, file_at, file_by, has_folder}
use Rattle.md_dirs.specs.declared.paths.Path.{Path}
use Rattle.md_dirs.specs.declared.paths.Place.{Place}
use Rattle.md_dirs.specs.declared.paths.File.{File}
use Rattle.md_dirs.specs.declared.calls.DirError.{DirError}
use Rattle.md_dirs.specs.declared.calls.DirError.TheVariants.{Exists, NotFound, Fault, NoMemory}

-- A directory call: where it is refused, and the state after it where it is not.
pub record Ask : Type 0 where
  pub refusal : State → Option DirError
  pub after : State → State

-- What contracts see of directories: their state, how often they failed by themselves, and how many calls were made of them.
pub record Device : Type 0 where
  pub state : State
  pub failures : ℕ
  pub calls : ℕ

-- directories that never failed, and of which no call was made
abbrev pub fresh : State → Device
fresh s = record { state = s; failures = 0; calls = 0 }

-- how many calls there were after a call with this answer: one more, but for one that is out of memory, which is no call
abbrev pub calls_after : {T : Type 0} → Result T DirError → ℕ → ℕ
calls_after (Ok x) calls = calls + 1
calls_after (Err Exists) calls = calls + 1
calls_after (Err NotFound) calls = calls + 1
calls_after (Err Fault) calls = calls + 1
calls_after (Err NoMemory) calls = calls

-- What a call may answer, and what it then leaves. A failure of the directories, and being out of memory, may take the place of its answer.
pub record Obeys {T : Type 0} (ask : Ask) (old : Device) (answer : Result T DirError) (new : Device) : Type 0 where
  pub accepted : OnOk answer (ask.refusal old.state ≡ None)
  pub done : OnOk answer (new.state ≡ ask.after old.state)
  pub exists : IsErrOf answer Exists → ask.refusal old.state ≡ Some Exists
  pub not_found : IsErrOf answer NotFound → ask.refusal old.state ≡ Some NotFound
  -- out of memory comes after the other checks
  pub no_memory : IsErrOf answer NoMemory → ask.refusal old.state ≡ None
  pub unchanged : OnErr answer (new.state ≡ old.state)
  -- a fault is a new failure, and nothing else is
  pub failed : IsErrOf answer Fault → new.failures ≡ old.failures + 1
  pub not_failed : (IsErrOf answer Fault → ⊥) → new.failures ≡ old.failures
  pub counted : new.calls ≡ calls_after answer old.calls

-- the state with a new file, under its first name
abbrev pub with_new_file : Path → File → State → State
with_new_file p file s = record s { names = finmap.insert s.names p (length s.files); files = s.files ++ Some file ∷ [] }

-- a new file: NotFound without the folder, Exists at a name that is there
abbrev pub create_as : Path → File → Ask
create_as p file = record {
  refusal = λ s. if has_folder s p then (if is_some (file_at s p) then Some Exists else None) else Some NotFound;
  after = with_new_file p file;
}

-- a file with no bytes
abbrev pub empty_file : ℕ → File
empty_file now = record { bytes = []; stamp = now }

-- the state with a new empty file, stamped with the moment
abbrev pub after_create : Path → ℕ → State → State
after_create p now = with_new_file p (empty_file now)

-- POSIX open with O_CREAT and O_EXCL: ENOENT without the folder, EEXIST at a name that is there; else a new empty file
abbrev pub create : Path → ℕ → Ask
create p now = create_as p (empty_file now)

-- a file with more bytes at its end
abbrev pub file_with_more : List ℕ → ℕ → Option File → Option File
file_with_more more now None = None
file_with_more more now (Some file) = Some (record { bytes = file.bytes ++ more; stamp = now })

-- the state with more bytes in the file of a number
abbrev pub after_append : List ℕ → ℕ → State → Option ℕ → State
after_append more now s None = s
after_append more now s (Some n) = record s { files = slice_set s.files n (file_with_more more now (file_by s.files n)) }

-- POSIX open with O_APPEND and write, by name: ENOENT without the name; else the bytes are at the file's end
abbrev pub append : Path → List ℕ → ℕ → Ask
append p more now = record {
  refusal = λ s. if is_some (file_at s p) then None else Some NotFound;
  after = λ s. after_append more now s (file_at s p);
}

-- the state with a path for the file of a number
abbrev pub with_path : Path → State → Option ℕ → State
with_path p s None = s
with_path p s (Some n) = record s { names = finmap.insert s.names p n }

-- POSIX link: ENOENT without the old name or the new folder, EEXIST at a new name that is there; else both name one file
abbrev pub link : Path → Path → Ask
link o n = record {
  refusal = λ s.
      if is_some (file_at s o) then (if has_folder s n then (if is_some (file_at s n) then Some Exists else None) else Some NotFound)
      else Some NotFound;
  after = λ s. with_path n s (file_at s o);
}

-- whether one of the paths names the file of a number
abbrev pub has_path_to : List (Path × ℕ) → ℕ → Bool
has_path_to names n = list_any (λ e. e.1 == n) names

-- the files, without that of a number where no path names it
abbrev pub files_still_named : List (Path × ℕ) → Option ℕ → List (Option File) → List (Option File)
files_still_named names None files = files
files_still_named names (Some n) files = if has_path_to names n then files else slice_set files n None

-- the state, with the file of a number given back where no path names it
abbrev pub with_files_still_named : Option ℕ → State → State
with_files_still_named number s = record s { files = files_still_named (finmap.entries s.names) number s.files }

-- the state without a path, and with all files
abbrev pub without_path : Path → State → State
without_path p s = record s { names = finmap.remove s.names p }

-- whether both are the number of one file
abbrev pub is_one_file : Option ℕ → Option ℕ → Bool
is_one_file (Some a) (Some b) = a == b
is_one_file a b = false

-- o is gone and n names its file, and no longer the file that it named. Where both named one file, nothing changes
abbrev pub after_rename : Path → Path → State → State
after_rename o n s =
    if is_one_file (file_at s o) (file_at s n) then s
    else with_files_still_named (file_at s n) (with_path n (without_path o s) (file_at s o))

-- POSIX rename: ENOENT without the old name or the new folder. It replaces its target
abbrev pub rename : Path → Path → Ask
rename o n = record {
  refusal = λ s. if is_some (file_at s o) then (if has_folder s n then None else Some NotFound) else Some NotFound;
  after = after_rename o n;
}

-- the state without a path, and without its file where that was the last
abbrev pub after_unlink : Path → State → State
after_unlink p s = with_files_still_named (file_at s p) (without_path p s)

-- POSIX unlink: ENOENT without the name; else the name is gone, and with its last name the file
abbrev pub unlink : Path → Ask
unlink p = record {
  refusal = λ s. if is_some (file_at s p) then None else Some NotFound;
  after = after_unlink p;
}

-- POSIX opendir and readdir, at one moment: ENOENT without the folder. It changes nothing
abbrev pub list : ℕ → Place → Ask
list folder place = record {
  refusal = λ s. if nat_lt folder s.folders then None else Some NotFound;
  after = λ s. s;
}
