-- Which clauses a step breaks, by the directories before it, the clock after it, and what is kept of files.
use Rattle.std.specs.Prelude.{ℕ, List, Option, Bool, false, not, ◌&&◌, ◌||◌, ◌-◌, nat_lt, nat_le, is_some}
use Rattle.std.specs.Str.{bytes_eq}
use Rattle.md_law.specs.Values.{State, file_by, Path, Clause, Call, Step}
use Rattle.md_log.specs.declared.clause.Clause.TheVariants as clause
use Rattle.md_log.specs.declared.line.Call.TheVariants as call
use Rattle.md_log.specs.declared.line.Deed.TheVariants as deed
use Rattle.md_log.specs.declared.line.Reply.TheVariants as reply
use Rattle.md_law.specs.History.{after_call}
use Rattle.md_law.specs.Messages.{is_message, is_tmp}
use Rattle.md_monitor.specs.Changes.{change_of, turned_by}
use Rattle.md_monitor.specs.Files.{FileKept, is_some_and, is_seen, is_new, is_not_found, written_by, kept_after}

-- the actor made the file
abbrev pub is_maker : FileKept → List ℕ → Bool
is_maker f actor = is_some_and f.maker (λ maker. bytes_eq maker actor)

-- the path of a message that a call makes empty
abbrev pub makes_message : Call → Bool
makes_message (call.At deed.Create p reply.Ok) = is_message p
makes_message c = false

-- the call renames or links a message in new
abbrev pub is_from_new : Call → Bool
is_from_new (call.Between n old new r) = is_message old && is_new old.place
is_from_new c = false

module _ (s : State) (now : ℕ) (kept : ℕ → FileKept) (x : Step) where
  -- the path that comes to name a file, with the file
  abbrev named : Option (Path × ℕ)
  named = (change_of s x.call).named

  -- it begins to be seen by that path
  abbrev is_shown : Path × ℕ → Bool
  is_shown e = is_message e.0 && not (is_seen s e.1)

  -- the call writes to a file of which the test holds, or may have written a part
  abbrev pub may_write : (ℕ → Bool) → Bool
  may_write test = is_some_and (written_by s x.call) (λ w. not (is_not_found w.1) && test w.0)

  -- ---- clauses of the law

  abbrev overwrites : Bool
  overwrites = is_some (turned_by s named)

  abbrev shows_too_early : Bool
  shows_too_early =
      makes_message x.call || (may_write (is_seen s) || is_some_and named (λ e. is_shown e && (kept e.1).is_cut))

  abbrev mixes : Bool
  mixes = may_write (λ n. not (is_maker (kept n) x.actor))

  abbrev shows_unflushed : Bool
  shows_unflushed = is_some_and named (λ e. is_shown e && (kept e.1).is_unflushed)

  -- a path of a message in new comes to name a file that was a message in cur
  abbrev pub is_moved_back : Path × ℕ → Bool
  is_moved_back e = is_message e.0 && is_new e.0.place && (kept e.1).was_cur

  abbrev pub breaks_moved_back : Bool
  breaks_moved_back = is_some_and named is_moved_back && not (is_from_new x.call)

  -- a path of tmp left a young file, which readers don't see and which another actor made
  abbrev pub is_cleaned_early : Path × ℕ → Bool
  is_cleaned_early e =
      is_tmp e.0.place && not (is_seen (after_call x.call now s) e.1) && not (is_maker (kept e.1) x.actor)
      && is_some_and (file_by s.files e.1) (λ file. nat_lt (now - file.stamp) 129600)

  -- ---- clauses that are owed beside it

  abbrev pub breaks_rewritten : Bool
  breaks_rewritten = may_write (λ n. (kept n).was_seen)

  abbrev pub breaks_named_by_another : Bool
  breaks_named_by_another = is_some_and named (λ e. not (is_seen s e.1) && not (is_maker (kept_after s x kept e.1) x.actor))

  abbrev pub breaks_written_late : Bool
  breaks_written_late =
      may_write (λ n. is_some_and (file_by s.files n) (λ file. nat_le 129600 (now - file.stamp)))

  -- ---- all

  -- the step breaks the clause, so far as it goes by files
  abbrev pub breaks_by_files : Clause → Bool
  breaks_by_files clause.Overwritten = overwrites
  breaks_by_files clause.SeenBeforeWhole = shows_too_early
  breaks_by_files clause.Mixed = mixes
  breaks_by_files clause.NotFlushed = shows_unflushed
  breaks_by_files clause.MovedBack = breaks_moved_back
  breaks_by_files clause.CleanedEarly =
      is_some_and (change_of s x.call).taken is_cleaned_early || is_some_and (turned_by s named) is_cleaned_early
  breaks_by_files clause.NamedByAnother = breaks_named_by_another
  breaks_by_files clause.Rewritten = breaks_rewritten
  breaks_by_files clause.WrittenLate = breaks_written_late
  breaks_by_files c = false
