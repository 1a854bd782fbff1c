-- Histories from opening names, and what readings and listings show of them.
use Rattle.std.specs.Prelude.{ℕ, List, ◌≡◌, ◌<◌, length, Option, Some, None}
use Rattle.md_dirs.specs.declared.paths.Place.{Place}
use Rattle.md_dirs.specs.declared.paths.Place.TheVariants.{New, Cur}
use Rattle.md_core.specs.History.{names_after, IsLegal, Names, names_of}
use Rattle.md_jobs.specs.declared.effect.Effect.{Effect}
use Rattle.md_listing.specs.declared.entry.Entry.{Entry}
use Rattle.md_view.specs.Named.{Named, AreMessages}
use Rattle.md_listing.specs.Readings.{reading_of, join_of}
use mathlib.Core.List.{IsPrefix}
use Rattle.md_core.specs.Mailbox.{mailbox_of}
use Rattle.md_core.specs.Runs.{Run, dirs_of}
use Rattle.md_listing.specs.Law.{names_after_first, IsGoodListing}
use Rattle.md_store.specs.Pages.{Log, Page}
use Rattle.md_store.specs.declared.rule.Knowledge.{Knowledge}

-- the names at the end of a history
abbrev pub named_after : Named → List Effect → Named
named_after opening history = record { folders = opening.folders; names = names_after opening.names history }

-- each effect of the history is allowed after those before it, and no job has two
abbrev pub IsLegalFrom : Named → List Effect → Type 0
IsLegalFrom opening history = IsLegal opening.folders opening.names history

-- the entries of a directory at the end of a history
abbrev pub read_at : ℕ → Place → Named → List Effect → List Entry
read_at folder place opening history = reading_of (named_after opening history).names folder place

-- a listing whose new is that of one history, and whose cur is that of a later one
abbrev pub listing : ℕ → Named → List Effect → List Effect → List Entry
listing folder opening h1 h2 = join_of (read_at folder New opening h1) (read_at folder Cur opening h2)

-- a first reading: its folder, the entries of new, and the history at whose end they were read
pub record Reading : Type 0 where
  pub folder : ℕ
  pub entries : List Entry
  pub history : List Effect

-- What names show of a folder: its new, or, where new was read before, the join of that reading with its cur.
abbrev pub seen_in : Option (List Entry) → ℕ → Names → List Entry
seen_in None folder names = reading_of names folder New
seen_in (Some new) folder names = join_of new (reading_of names folder Cur)

-- the page was looked at: it begins with what was held, and shows these entries
pub record IsLooked (p : Page) (held : List Effect) (folder : ℕ) (new : Option (List Entry))
    (entries : List Entry) (front : Log) : Type 0 where
  pub front_is : front ≡ p.front
  pub held_begins : IsPrefix held p.front.log
  pub folder_is_there : folder < p.names.folders
  pub entries_are : entries ≡ seen_in new folder p.names.names

-- What a seat that knows its store saw: a legal history which begins with what was held, and these entries at its end.
pub record Sees (v : Knowledge) (held : List Effect) (folder : ℕ) (new : Option (List Entry))
    (entries : List Entry) (front : Log) : Type 0 where
  pub book_is : front.book ≡ v.held.book
  pub held_begins : IsPrefix held front.log
  pub legal : IsLegalFrom v.opening front.log
  pub messages : AreMessages v.opening
  pub folder_is_there : folder < v.opening.folders
  pub entries_are : entries ≡ seen_in new folder (named_after v.opening front.log).names

-- The listing law, for entries whose new is that of a beginning of the history that is held, and whose cur is that of its end.
abbrev pub IsGoodFrom : ℕ → Named → List Effect → List Effect → List Entry → Type 0
IsGoodFrom folder opening h1 now entries = IsGoodListing (names_after_first opening.names now) folder (length h1) (length now) entries

-- what a second reading gives: the join of the first one with cur at the end of what is held, which is a good listing between the two
pub record Finishes (opening : Named) (first : Reading) (now : List Effect) (entries : List Entry) : Type 0 where
  pub new_is : first.entries ≡ read_at first.folder New opening first.history
  pub entries_are : entries ≡ join_of first.entries (read_at first.folder Cur opening now)
  pub law : IsGoodFrom first.folder opening first.history now entries

-- A listing from a history that begins with what was held to one that is held now. Both are legal, and the listing law holds between them.
pub record Lists (folder : ℕ) (opening : Named) (before now : List Effect) (entries : List Entry) : Type 0 where
  pub h1 : List Effect
  pub held_begins : IsPrefix before h1
  pub h1_begins : IsPrefix h1 now
  pub first_legal : IsLegalFrom opening h1
  pub legal : IsLegalFrom opening now
  pub entries_are : entries ≡ listing folder opening h1 now
  pub law : IsGoodFrom folder opening h1 now entries

-- Listings with a pass that held this history are those of the directories at the end of the run.
pub record ShowsLast (opening : Named) (held : List Effect) (r : Run) : Type 0 where
  pub shows : (folder : ℕ) (before : List Effect) (entries : List Entry) → Lists folder opening before held entries
      → length before ≡ length held → entries ≡ join_of (reading_of (names_of (mailbox_of (dirs_of r))) folder New)
      (reading_of (names_of (mailbox_of (dirs_of r))) folder Cur)
