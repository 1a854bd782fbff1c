-- What a step is found to break, by what is kept.
use Rattle.std.specs.Prelude.{ℕ, ◌-◌, ◌==◌, ◌&&◌, ◌||◌, not, List, Option, None, Bool, true, false, nat_lt, nat_le, is_some, is_none, if◌then◌else◌}
use Rattle.std.specs.FinSet as set
use Rattle.md_law.specs.Values.{Path, Clause, Call, Step}
use Rattle.md_name.specs.Names.{split_of, flags_of}
use Rattle.md_log.specs.declared.clause.Clause.TheVariants as clause
use Rattle.md_log.specs.declared.line.Call.TheVariants as call
use Rattle.md_log.specs.declared.line.Deed.TheVariants as deed
use Rattle.md_log.specs.declared.line.Reply.TheVariants as reply
use Rattle.md_law.specs.Messages.{is_message, is_tmp}
use Rattle.md_monitor.specs.Files.{is_some_and, is_new, is_cur, is_not_found}
use Rattle.md_monitor.specs.Messages.{named_other}
use Rattle.md_monitor.specs.Found.{is_from_new, makes_message}
use Rattle.md_watch.specs.declared.watch.Watch.{Watch}
use Rattle.md_watch.specs.declared.broken.Before.{Before}
use Rattle.md_watch.specs.declared.broken.Broken.{Broken}
use Rattle.md_watch.specs.declared.memory.Heard.{Heard}
use Rattle.md_kept.specs.Changes.{Turn, file_in, message_of}
use Rattle.md_kept.specs.Files.{is_maker_in, is_unflushed_in, is_cut_in, was_cur_in, was_seen_in, is_seen_in, stamp_in}
use Rattle.md_kept.specs.Messages.{count_in_folder, count_anywhere, count_as_file, was_in_folder, was_in_folder_as, was_anywhere, was_as_file}
use Rattle.md_kept.specs.Replies.{is_wrong}
use Rattle.md_kept.specs.Drafts.{path_in}

-- the file to which a call writes, or may have written a part
abbrev pub written_by : (Path → Option ℕ) → Call → Option ℕ
written_by file_at (call.At deed.Write p r) = if is_not_found r then None else file_at p
written_by file_at c = None

abbrev pub makes : Call → Bool
makes (call.At deed.Create p reply.Ok) = true
makes c = false

-- the name of a message shows the flag T
abbrev pub shows_trashed : List ℕ → Bool
shows_trashed name = is_some_and (split_of name) (λ parts. is_some_and (flags_of parts.1) (λ flags. set.contains flags 84))

-- the call unlinks a path in cur whose name shows it
abbrev pub empties_trash : Call → Bool
empties_trash (call.At deed.Unlink p reply.Ok) = is_cur p.place && shows_trashed p.name
empties_trash c = false

-- a path of a message is added
abbrev pub adds : Turn → Bool
adds t = is_some_and t.named (λ e. is_none t.turned && is_message e.0)

module _ (w : Watch) where
  abbrev pub is_early : List ℕ → Option (Path × ℕ) → Bool
  is_early actor named = is_some_and named (λ e.
      is_tmp e.0.place && not (is_maker_in w.files.all.items e.1 actor) && nat_lt (w.clock - stamp_in w.files.all.items e.1) 129600)

  abbrev pub is_in_sight : Option ℕ → Bool
  is_in_sight file = is_some_and file (λ n. is_seen_in w.files.all.items n)

  -- a file begins to be seen whose last write has failed
  abbrev pub shows_cut : Option (Path × ℕ) → Bool
  shows_cut named = is_some_and named (λ e.
      is_message e.0 && not (is_seen_in w.files.all.items e.1) && is_cut_in w.files.all.items e.1)

  abbrev pub shows_too_early : Call → Option ℕ → Option (Path × ℕ) → Bool
  shows_too_early c written named = makes_message c || is_in_sight written || shows_cut named

  -- one that was not flushed since a write
  abbrev pub shows_unflushed : Option (Path × ℕ) → Bool
  shows_unflushed named = is_some_and named (λ e.
      is_message e.0 && not (is_seen_in w.files.all.items e.1) && is_unflushed_in w.files.all.items e.1)

  -- a message that had gone from the folder, as a file that it never was there
  abbrev pub is_back : Option (Path × ℕ) → Bool
  is_back named = is_some_and named (λ e. is_some_and (message_of e.0) (λ u.
      count_in_folder w.messages e.0.folder u == 0 && was_in_folder w.messages e.0.folder u
      && not (was_in_folder_as w.messages e.0.folder u e.1)))

  -- a message that has no path in its folder, and whose file is it in no other
  abbrev pub is_gone : Option (Path × ℕ) → Bool
  is_gone taken = is_some_and taken (λ e. is_some_and (message_of e.0) (λ u.
      count_in_folder w.messages e.0.folder u == 0 && count_as_file w.messages u e.1 == 0))

  abbrev pub is_mixed : List ℕ → Option ℕ → Bool
  is_mixed actor file = is_some_and file (λ n. not (is_maker_in w.files.all.items n actor))

  abbrev pub is_anothers : Step → Option (Path × ℕ) → Bool
  is_anothers x named = is_some_and named (λ e.
      not (is_seen_in w.files.all.items e.1) && not (makes x.call) && not (is_maker_in w.files.all.items e.1 x.actor))

  abbrev pub is_rewritten : Option ℕ → Bool
  is_rewritten file = is_some_and file (λ n. was_seen_in w.files.all.items n)

  abbrev pub is_moved_back : Option (Path × ℕ) → Bool
  is_moved_back named = is_some_and named (λ e. is_message e.0 && is_new e.0.place && was_cur_in w.files.all.items e.1)

  abbrev pub is_used_twice : Option (Path × ℕ) → Bool
  is_used_twice named = is_some_and named (λ e. is_some_and (message_of e.0) (λ u.
      was_anywhere w.messages u && not (was_as_file w.messages u e.1)))

  abbrev pub is_made_again : Option (Path × ℕ) → Bool
  is_made_again named = is_some_and named (λ e. is_tmp e.0.place && named_other (path_in w.drafts e.0.folder e.0.name) e.1)

  abbrev pub is_late : Option ℕ → Bool
  is_late file = is_some_and file (λ n. nat_le 129600 (w.clock - stamp_in w.files.all.items n))

  abbrev pub is_second : Option (Path × ℕ) → Bool
  is_second named = is_some_and named (λ e. is_some_and (message_of e.0) (λ u. nat_lt 1 (count_in_folder w.messages e.0.folder u)))

  abbrev pub is_elsewhere : Option (Path × ℕ) → Bool
  is_elsewhere named = is_some_and named (λ e. is_some_and (message_of e.0) (λ u.
      nat_lt (count_in_folder w.messages e.0.folder u) (count_anywhere w.messages u)))

  abbrev pub is_hidden : Option (Path × ℕ) → Bool
  is_hidden named = is_some_and named (λ e. not (is_seen_in w.files.all.items e.1))

  -- by the directories before the step
  abbrev pub before_of : Turn → Step → Before
  before_of t x = let written = written_by (file_in w.paths) x.call in record {
    adds = adds t;
    empties_trash = empties_trash x.call;
    takes_early = is_early x.actor t.taken;
    turns_early = is_early x.actor t.turned;
    not_a_directory = is_wrong (file_in w.paths) w.folders x.call;
    overwritten = is_some t.turned;
    seen_before_whole = shows_too_early x.call written t.named;
    mixed = is_mixed x.actor written;
    not_flushed = shows_unflushed t.named;
    used_again = adds t && is_back t.named;
    moved_back = is_moved_back t.named && not (is_from_new x.call);
    named_by_another = is_anothers x t.named;
    rewritten = is_rewritten written;
    used_twice = is_used_twice t.named;
    made_again = is_made_again t.named;
    written_late = is_late written;
  }

  -- and by those after it
  abbrev pub after_of : Turn → Before → Heard → Broken
  after_of t b heard = record {
    two_names = b.adds && is_second t.named;
    in_two_folders = b.adds && is_elsewhere t.named;
    gone = not b.empties_trash && is_gone t.taken;
    renamed = (not b.empties_trash && is_gone t.taken) && not (is_hidden t.taken);
    cleaned_early = (b.takes_early && is_hidden t.taken) || (b.turns_early && is_hidden t.turned);
    before = b;
    heard = heard;
  }

-- a step is found to break the clause
abbrev pub breaks : Broken → Clause → Bool
breaks b clause.NotADirectory = b.before.not_a_directory || b.heard.read.misread
breaks b clause.Overwritten = b.before.overwritten
breaks b clause.SeenBeforeWhole = b.before.seen_before_whole
breaks b clause.Mixed = b.before.mixed
breaks b clause.NotFlushed = b.before.not_flushed
breaks b clause.TwoNames = b.two_names
breaks b clause.Gone = b.gone
breaks b clause.UsedAgain = b.before.used_again
breaks b clause.MovedBack = b.before.moved_back
breaks b clause.CleanedEarly = b.cleaned_early
breaks b clause.Unlisted = b.heard.read.unlisted
breaks b clause.GaveUp = b.heard.told.gave_up
breaks b clause.AnsweredFalsely = b.heard.told.falsely
breaks b clause.InTwoFolders = b.in_two_folders
breaks b clause.NamedByAnother = b.before.named_by_another
breaks b clause.Rewritten = b.before.rewritten
breaks b clause.UsedTwice = b.before.used_twice
breaks b clause.MadeAgain = b.before.made_again
breaks b clause.WrittenLate = b.before.written_late
