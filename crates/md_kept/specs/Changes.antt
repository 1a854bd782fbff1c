-- What a call does to paths, by a function from paths to files and the number of files that were made.
use Rattle.std.specs.Prelude.{ℕ, Option, Some, None, List, if◌then◌else◌}
use Rattle.std.specs.Borrow.{Bor}
use Rattle.std.specs.Option.{option_map}
use Rattle.std.specs.Ordering.{eq_by_cmp}
use Rattle.md_dirs.specs.Index.{directory_number}
use Rattle.md_dirs.specs.Path.{path_cmp}
use Rattle.md_law.specs.Values.{Path, Call}
use Rattle.md_name.specs.Names.{unique_of}
use Rattle.md_log.specs.declared.line.Call.TheVariants as call
use Rattle.md_log.specs.declared.line.Deed.TheVariants as deed
use Rattle.md_log.specs.declared.line.Naming.TheVariants as naming
use Rattle.md_log.specs.declared.line.Reply.TheVariants as reply
use Rattle.md_law.specs.Messages.{is_message}
use Rattle.md_monitor.specs.Changes.{is_file, with_file}
use Rattle.md_kept.specs.declared.change.Change.{Change}
use Rattle.md_kept.specs.declared.paths.Paths.{Paths}
use Rattle.md_kept.specs.Directories.{file_named}

-- the number of the file of a path
abbrev pub file_in : Paths → Path → Option ℕ
file_in t p = file_named t (directory_number p.folder p.place) p.name

-- the unique name of a message's path
abbrev pub message_of : Path → Option (List ℕ)
message_of p = if is_message p then Some (unique_of p.name) else None

-- a path that is lent, with its file
abbrev pub lent : Bor Path × ℕ → Path × ℕ
lent e = (e.0.now, e.1)

-- What a call does to paths. Each has the number of its file: of a path that comes to name another file than before, of that before.
pub record Turn : Type 0 where
  pub named : Option (Path × ℕ)
  pub taken : Option (Path × ℕ)
  pub turned : Option (Path × ℕ)

-- nothing is done
abbrev pub still : Turn
still = record { named = None; taken = None; turned = None }

-- a path is added that names a file
abbrev pub adding : Path → ℕ → Turn
adding p n = record { named = Some (p, n); taken = None; turned = None }

-- what a change says
abbrev pub turn_of : Change → Turn
turn_of c = record { named = option_map lent c.named; taken = option_map lent c.taken; turned = option_map lent c.turned }

-- By a function from paths to their files: a path comes to name a file, where there is one that it does not name yet, and another path is
-- taken away.
abbrev pub naming_by : (Path → Option ℕ) → Path → Option (Path × ℕ) → Option ℕ → Turn
naming_by file_at p taken None = still
naming_by file_at p taken (Some n) =
    if is_file (file_at p) n then still else record { named = Some (p, n); taken = taken; turned = with_file p (file_at p) }

-- what a call does by it, where so many files were made
abbrev pub turn_by : (Path → Option ℕ) → ℕ → Call → Turn
turn_by file_at files (call.At deed.Create p reply.Ok) = naming_by file_at p None (Some files)
turn_by file_at files (call.At deed.Unlink p reply.Ok) = record { named = None; taken = with_file p (file_at p); turned = None }
turn_by file_at files (call.Between naming.Link old new reply.Ok) = naming_by file_at new None (file_at old)
turn_by file_at files (call.Between naming.Rename old new reply.Ok) = naming_by file_at new (with_file old (file_at old)) (file_at old)
turn_by file_at files c = still

-- what paths name after one was taken, and after one came to name a file
abbrev pub after_taken : Path → (Path → Option ℕ) → Path → Option ℕ
after_taken p before q = if eq_by_cmp path_cmp q p then None else before q

abbrev pub after_named : Path → ℕ → (Path → Option ℕ) → Path → Option ℕ
after_named p n before q = if eq_by_cmp path_cmp q p then Some n else before q

abbrev pub with_taken : Option (Path × ℕ) → (Path → Option ℕ) → Path → Option ℕ
with_taken None before q = before q
with_taken (Some e) before q = after_taken e.0 before q

abbrev pub with_named : Option (Path × ℕ) → (Path → Option ℕ) → Path → Option ℕ
with_named None before q = before q
with_named (Some e) before q = after_named e.0 e.1 before q

-- what paths name after a turn
abbrev pub after_turn : Turn → (Path → Option ℕ) → Path → Option ℕ
after_turn t before q = with_named t.named (with_taken t.taken before) q
