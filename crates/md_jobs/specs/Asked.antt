-- A directory call as a step makes it, with its paths: where it is refused, what it leaves, and what a step shows of it.
use Rattle.std.specs.Prelude.{ℕ, List, length, Option, Some, None, Bool, true, false}
use Rattle.md_dirs.specs.State.{State}
use Rattle.md_dirs.specs.Calls.{Ask}
use Rattle.md_dirs.specs.Calls as dirs
use Rattle.md_dirs.specs.declared.paths.Path.{Path}
use Rattle.md_dirs.specs.declared.paths.Place.{Place}
use Rattle.md_dirs.specs.declared.calls.DirError.{DirError}
use Rattle.md_dirs.specs.declared.calls.DirError.TheVariants.{Exists, NotFound}
use Rattle.md_jobs.specs.declared.step.DirCall.{DirCall}
use Rattle.md_jobs.specs.declared.step.DirCall.TheVariants as call
use Rattle.md_jobs.specs.declared.step.DirReply.{DirReply}
use Rattle.md_jobs.specs.declared.step.DirReply.TheVariants as reply

-- a directory call, with its paths
pub data Asked : Type 0 where
  create : (p : Path) → Asked
  append : (p : Path) (bytes : List ℕ) → Asked
  link : (old new : Path) → Asked
  rename : (old new : Path) → Asked
  unlink : (p : Path) → Asked
  list : (folder : ℕ) (place : Place) → Asked

-- where the call is refused and what it leaves, at a clock
abbrev pub ask_of : Asked → ℕ → Ask
ask_of (create p) clock = dirs.create p clock
ask_of (append p bytes) clock = dirs.append p bytes clock
ask_of (link old new) clock = dirs.link old new
ask_of (rename old new) clock = dirs.rename old new
ask_of (unlink p) clock = dirs.unlink p
ask_of (list folder place) clock = dirs.list folder place

-- what a step shows of the call
abbrev pub shown_call : Asked → DirCall
shown_call (create p) = call.Create
shown_call (append p bytes) = call.Append (length bytes)
shown_call (link old new) = call.Link
shown_call (rename old new) = call.Rename
shown_call (unlink p) = call.Unlink
shown_call (list folder place) = call.List place

-- the reply of a call that is refused so, or done
abbrev pub reply_by : Option DirError → DirReply
reply_by None = reply.Ok
reply_by (Some Exists) = reply.Exists
reply_by (Some NotFound) = reply.NotFound
reply_by (Some e) = reply.Fault

-- the directories after a reply
abbrev pub state_by : Ask → State → DirReply → State
state_by ask s reply.Ok = ask.after s
state_by ask s r = s

-- whether a reply is Fault
abbrev pub is_fault : DirReply → Bool
is_fault reply.Fault = true
is_fault r = false
