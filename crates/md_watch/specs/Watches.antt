-- What a watch holds: that what it keeps is what the monitor keeps of a history.
use Rattle.std.specs.Prelude.{ℕ, ◌≡◌, ◌+◌, ◌↔◌, ◌⊎◌, List, Option, Some, None, IsSome, true, length}
use Rattle.md_law.specs.Values.{State, file_at, file_by, File, Path, Clause, Call, Step}
use Rattle.md_log.specs.declared.line.Call.TheVariants as call
use Rattle.md_log.specs.declared.line.Deed.TheVariants as deed
use Rattle.md_log.specs.declared.line.Reply.TheVariants as reply
use Rattle.md_dirs.specs.Calls.{with_new_file, with_path, empty_file}
use Rattle.md_law.specs.History.{History, Moment, opening, at, now}
use Rattle.md_law.specs.Law.{Breaks}
use Rattle.md_law.specs.Messages.{is_tmp}
use Rattle.md_monitor.specs.Files.{FileKept, files_kept, count_where, seen_times}
use Rattle.md_monitor.specs.Messages.{MessagesKept, messages_kept, paths_of, paths_as, is_of_any}
use Rattle.md_watch.specs.Stored.{HasFiles}
use Rattle.md_log.specs.declared.error.LineFault.{LineFault}
use Rattle.md_log.specs.declared.error.LineFault.TheVariants.{SamePath, NoSuchPath}
use Rattle.md_kept.specs.declared.files.FileKept.{FileKept as Kept}
use Rattle.md_kept.specs.declared.messages.Messages.{Messages}
use Rattle.md_kept.specs.declared.drafts.Drafts.{Drafts}
use Rattle.md_watch.specs.declared.broken.Broken.{Broken}
use Rattle.md_watch.specs.declared.watch.Watch.{Watch}
use Rattle.md_watch.specs.Found.{breaks}
use Rattle.md_kept.specs.Changes.{Turn, file_in, after_turn}
use Rattle.md_kept.specs.Files as files
use Rattle.md_kept.specs.Messages as messages
use Rattle.md_kept.specs.Drafts as drafts
use Rattle.md_watch.specs.Memory.{Recalls}

-- ---- what tables hold, by the directories and what the monitor keeps

-- files by their numbers
pub record AreFiles (s : State) (kept : ℕ → FileKept) (all : List Kept) : Type 0 where
  pub count : length all ≡ length s.files
  pub maker : (n : ℕ) → files.maker_in all n ≡ (kept n).maker
  pub unflushed : (n : ℕ) → files.is_unflushed_in all n ≡ (kept n).is_unflushed
  pub cut : (n : ℕ) → files.is_cut_in all n ≡ (kept n).is_cut
  pub was_cur : (n : ℕ) → files.was_cur_in all n ≡ (kept n).was_cur
  pub was_seen : (n : ℕ) → files.was_seen_in all n ≡ (kept n).was_seen
  pub times : (n : ℕ) → files.times_in all n ≡ seen_times s n
  pub stamp : (n : ℕ) (f : File) → file_by s.files n ≡ Some f → files.stamp_in all n ≡ f.stamp

-- messages by their unique names
pub record AreMessages (s : State) (kept : MessagesKept) (m : Messages) : Type 0 where
  pub in_folder : (folder : ℕ) (unique : List ℕ) → messages.count_in_folder m folder unique ≡ paths_of s folder unique
  pub anywhere : (unique : List ℕ) → messages.count_anywhere m unique ≡ count_where (λ e. is_of_any unique e.0) s
  pub as_file : (unique : List ℕ) (n : ℕ) → messages.count_as_file m unique n ≡ paths_as s unique n
  pub was_there : (folder : ℕ) (unique : List ℕ) → messages.was_in_folder m folder unique ≡ kept.was_there folder unique
  pub was_file : (folder : ℕ) (unique : List ℕ) (n : ℕ) → messages.was_in_folder_as m folder unique n ≡ kept.was_file folder unique n
  pub was_any : (unique : List ℕ) → messages.was_anywhere m unique ≡ kept.was_any unique
  pub was_any_file : (unique : List ℕ) (n : ℕ) → messages.was_as_file m unique n ≡ kept.was_any_file unique n

-- paths of tmp
abbrev pub AreDrafts : MessagesKept → Drafts → Type 0
AreDrafts kept d = (p : Path) → is_tmp p.place ≡ true → drafts.path_in d p.folder p.name ≡ kept.paths p

-- What a watch keeps is so of these directories and this clock, and is what the monitor keeps.
pub record Keeps (s : State) (now : ℕ) (kept : ℕ → FileKept) (told : MessagesKept) (w : Watch) : Type 0 where
  pub clock : w.clock ≡ now
  pub folders : w.folders ≡ s.folders
  pub paths : (p : Path) → file_in w.paths p ≡ file_at s p
  pub filed : HasFiles s
  pub files : AreFiles s kept w.files.all.items
  pub messages : AreMessages s told w.messages
  pub drafts : AreDrafts told w.drafts

-- The watch holds a history.
pub record Holds (h : History) (w : Watch) : Type 0 where
  pub keeps : Keeps (at h) (now h) (files_kept h) (messages_kept h) w
  pub recalls : Recalls h w.memory

-- ---- what is said of the watch

-- the clauses that are found are those that the last step breaks
abbrev pub Finds : Broken → History → Type 0
Finds b h = (c : Clause) → (breaks b c ≡ true) ↔ Breaks c h

-- at the beginning there is a folder more
abbrev pub with_folder : Moment → Moment
with_folder m = record m { state = record m.state { folders = m.state.folders + 1 } }

-- At the beginning a path comes to name a new file, which was last made or written to then: it named none before, and the watch holds what
-- is so then.
abbrev pub PutsFile : Moment → Path → ℕ → Watch → Type 0
PutsFile m p stamp w = (file_at m.state p ≡ None) × Holds (opening (record m { state = with_new_file p (empty_file stamp) m.state })) w

-- At the beginning a path comes to name the file of another.
abbrev pub PutsName : Moment → Path → Path → Watch → Type 0
PutsName m p old w = (n : ℕ) × (file_at m.state p ≡ None) × (file_at m.state old ≡ Some n)
    × Holds (opening (record m { state = with_path p m.state (Some n) })) w

-- why a file is not put: the path names one
abbrev pub IsPathRefused : Moment → Path → LineFault → Type 0
IsPathRefused m p fault = (fault ≡ SamePath) × IsSome (file_at m.state p)

-- why a further path is not put: it names a file, or the other names none
abbrev pub IsNameRefused : Moment → Path → Path → LineFault → Type 0
IsNameRefused m p old fault = IsPathRefused m p fault ⊎ ((fault ≡ NoSuchPath) × (file_at m.state p ≡ None) × (file_at m.state old ≡ None))

-- ---- how it goes on

-- what a call does to files, but for their paths
abbrev pub touching : (Path → Option ℕ) → ℕ → List ℕ → Call → List Kept → List Kept → Type 0
touching file_at now actor (call.At deed.Create p reply.Ok) old new = files.Adds (files.made_by (Some actor) now) old new
touching file_at now actor (call.At deed.Write p reply.Ok) old new = files.changing (files.written now) (file_at p) old new
touching file_at now actor (call.At deed.Write p reply.Fault) old new = files.changing files.cut (file_at p) old new
touching file_at now actor (call.At deed.Flush p reply.Ok) old new = files.changing files.flushed (file_at p) old new
touching file_at now actor c old new = new ≡ old

-- nothing but files is touched
pub record Touches (x : Step) (old new : Watch) : Type 0 where
  pub clock : new.clock ≡ old.clock
  pub folders : new.folders ≡ old.folders
  pub paths : new.paths ≡ old.paths
  pub files : touching (file_in old.paths) old.clock x.actor x.call old.files.all.items new.files.all.items
  pub messages : new.messages ≡ old.messages
  pub drafts : new.drafts ≡ old.drafts
  pub memory : new.memory ≡ old.memory

pub record Follows (t : Turn) (old new : Watch) : Type 0 where
  pub clock : new.clock ≡ old.clock
  pub folders : new.folders ≡ old.folders
  pub paths : (q : Path) → file_in new.paths q ≡ after_turn t (file_in old.paths) q
  pub files : files.Follows t old.files.all.items new.files.all.items
  pub messages : messages.Follows t old.messages new.messages
  pub drafts : drafts.Comes t.named old.drafts new.drafts
  pub memory : new.memory ≡ old.memory
