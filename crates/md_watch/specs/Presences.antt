-- When names were in directories and messages in folders, and how it goes on with a turn of paths.
use Rattle.std.specs.Prelude.{ℕ, ◌≡◌, List, Option, Some, None, Bool, true, false, is_some, nat_lt}
use Rattle.md_dirs.specs.Index.{directory_number}
use Rattle.md_law.specs.Values.{State, file_at, Path}
use Rattle.md_monitor.specs.Files.{is_some_and}
use Rattle.md_monitor.specs.Messages.{is_there}
use Rattle.md_kept.specs.declared.messages.Messages.{Messages}
use Rattle.md_watch.specs.declared.presences.InFolders.{InFolders}
use Rattle.md_watch.specs.declared.presences.Presences.{Presences}
use Rattle.md_watch.specs.declared.spells.Spells.{Spells}
use Rattle.md_kept.specs.Changes.{Turn, message_of}
use Rattle.md_kept.specs.Messages.{count_in_folder}
use Rattle.md_watch.specs.Spells.{IsTimely, Notes, spell_at}

-- ---- what is kept, by the directories

-- What is kept is so of these directories, after so many steps.
pub record ArePresences (n : ℕ) (s : State) (w : Presences) : Type 0 where
  pub names : (p : Path) → IsTimely n (is_some (file_at s p)) (spell_at w.names (directory_number p.folder p.place) p.name)
  pub messages : (folder : ℕ) (unique : List ℕ) → IsTimely n (is_there s folder unique) (spell_at w.messages folder unique)

pub record KeepsNone (w : Presences) : Type 0 where
  pub names : (number : ℕ) (name : List ℕ) → spell_at w.names number name ≡ None
  pub messages : (folder : ℕ) (unique : List ℕ) → spell_at w.messages folder unique ≡ None

-- ---- the messages of paths

-- the message of a path is in the folder of the path
abbrev pub is_in_folder : Messages → Option (Path × ℕ) → Bool
is_in_folder m named = is_some_and named (λ e. is_some_and (message_of e.0) (λ u. nat_lt 0 (count_in_folder m e.0.folder u)))

abbrev pub in_folders : Messages → Turn → InFolders
in_folders m t = record { named = is_in_folder m t.named; taken = is_in_folder m t.taken }

-- ---- how it goes on

-- a path was there before a step of a number or not, and is there after it or not
abbrev pub NotesPath : Option (Path × ℕ) → Bool → Bool → ℕ → Spells → Spells → Type 0
NotesPath None was is n old new = new ≡ old
NotesPath (Some e) was is n old new = Notes (directory_number e.0.folder e.0.place) e.0.name was is n old new

-- and so the message of a unique name, in a folder
abbrev pub NotesUnique : ℕ → Option (List ℕ) → Bool → Bool → ℕ → Spells → Spells → Type 0
NotesUnique folder None was is n old new = new ≡ old
NotesUnique folder (Some unique) was is n old new = Notes folder unique was is n old new

-- and so the message of a path
abbrev pub NotesMessage : Option (Path × ℕ) → Bool → Bool → ℕ → Spells → Spells → Type 0
NotesMessage None was is n old new = new ≡ old
NotesMessage (Some e) was is n old new = NotesUnique e.0.folder (message_of e.0) was is n old new

-- The path that comes to name a file is noted, and then the one that is taken; and so their messages.
pub record Follows (t : Turn) (before after : InFolders) (n : ℕ) (old new : Presences) : Type 0 where
  pub names : (mid : Spells) × NotesPath t.named (is_some t.turned) true n old.names mid × NotesPath t.taken true false n mid new.names
  pub messages : (mid : Spells) × NotesMessage t.named before.named after.named n old.messages mid
      × NotesMessage t.taken before.taken after.taken n mid new.messages
