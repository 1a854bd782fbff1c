-- Which path a call makes name another file than before, and which it takes away.
use Rattle.std.specs.Prelude.{ℕ, Option, Some, None, Bool, false, ◌==◌, if◌then◌else◌, length}
use Rattle.std.specs.Option.{option_map}
use Rattle.md_law.specs.Values.{State, file_at, Path, Call}
use Rattle.md_log.specs.declared.line.Call.TheVariants as call
use Rattle.md_log.specs.declared.line.Deed.TheVariants as deed
use Rattle.md_log.specs.declared.line.Naming.TheVariants as naming
use Rattle.md_log.specs.declared.line.Reply.TheVariants as reply

-- What a call does to paths. Each has the number of its file.
pub record Change : Type 0 where
  -- the path that comes to name a file
  pub named : Option (Path × ℕ)
  -- the path that comes to name none
  pub taken : Option (Path × ℕ)

abbrev pub no_change : Change
no_change = record { named = None; taken = None }

-- it is the number of this file
abbrev pub is_file : Option ℕ → ℕ → Bool
is_file None n = false
is_file (Some m) n = n == m

-- a path with its file, where it has one
abbrev pub with_file : Path → Option ℕ → Option (Path × ℕ)
with_file p file = option_map (λ n. (p, n)) file

-- a path comes to name a file, where there is one that it does not name yet, and another is taken away
abbrev pub naming_change : State → Path → Option (Path × ℕ) → Option ℕ → Change
naming_change s p taken None = no_change
naming_change s p taken (Some n) = if is_file (file_at s p) n then no_change else record { named = Some (p, n); taken = taken }

-- what a call does to the paths of these directories
abbrev pub change_of : State → Call → Change
change_of s (call.At deed.Create p reply.Ok) = naming_change s p None (Some (length s.files))
change_of s (call.At deed.Unlink p reply.Ok) = record { named = None; taken = with_file p (file_at s p) }
change_of s (call.Between naming.Link old new reply.Ok) = naming_change s new None (file_at s old)
change_of s (call.Between naming.Rename old new reply.Ok) = naming_change s new (with_file old (file_at s old)) (file_at s old)
change_of s c = no_change

-- the path that comes to name another file, with the one that it named
abbrev pub turned_by : State → Option (Path × ℕ) → Option (Path × ℕ)
turned_by s None = None
turned_by s (Some (p, n)) = with_file p (file_at s p)
