-- What is remembered of the moments so far, and how it goes on.
use Rattle.std.specs.Prelude.{ℕ, ◌≡◌, ◌+◌, List, Option, Some, None, Bool, false}
use Rattle.md_dirs.specs.Index.{directory_number}
use Rattle.md_law.specs.Values.{State, Path, New, Cur, Call, Reply, Step}
use Rattle.md_name.specs.Letters.{Set, IsOfLetters}
use Rattle.md_log.specs.declared.line.Call.TheVariants as call
use Rattle.md_log.specs.declared.line.Said.TheVariants as said
use Rattle.md_law.specs.History.{History, opening, next, at}
use Rattle.md_law.specs.Readings.{Looker}
use Rattle.md_monitor.specs.Answers.{is_told_and}
use Rattle.md_monitor.specs.Judged.{Kept, kept_of}
use Rattle.md_watch.specs.declared.claims.finding.Past.{Past}
use Rattle.md_watch.specs.declared.listings.Listings.{Listings}
use Rattle.md_watch.specs.declared.listings.Present.{Present}
use Rattle.md_watch.specs.declared.memory.Heard.{Heard}
use Rattle.md_watch.specs.declared.memory.Memory.{Memory}
use Rattle.md_watch.specs.declared.memory.Read.{Read}
use Rattle.md_watch.specs.declared.memory.Told.{Told}
use Rattle.md_kept.specs.declared.messages.Messages.{Messages}
use Rattle.md_kept.specs.declared.paths.Paths.{Paths}
use Rattle.md_watch.specs.declared.presences.InFolders.{InFolders}
use Rattle.md_watch.specs.declared.readings.Reading.{Reading}
use Rattle.md_kept.specs.Changes.{Turn}
use Rattle.md_watch.specs.Claims as claims
use Rattle.md_watch.specs.Claims.{AreClaims, actor_in}
use Rattle.md_kept.specs.Directories.{names_in}
use Rattle.md_watch.specs.Flagged as flagged
use Rattle.md_watch.specs.Flagged.{AreFlagged}
use Rattle.md_watch.specs.Listings.{AreListings, Breaks, Completes, is_unlisted, listing_in}
use Rattle.md_watch.specs.Presences as presences
use Rattle.md_watch.specs.Presences.{ArePresences}
use Rattle.md_watch.specs.Readings.{AreReadings, TakesPart, reading_in, is_wrong}
use Rattle.md_kept.specs.Tables.{value_at}

-- ---- what is remembered is so

-- the number of steps of a history
abbrev pub steps_of : History → ℕ
steps_of (opening m) = 0
steps_of (next past x) = steps_of past + 1

-- No step was taken, and these directories are there.
pub record Begins (s : State) (w : Memory) : Type 0 where
  pub steps : w.steps ≡ 0
  pub presences : presences.KeepsNone w.presences
  pub flagged : AreFlagged 0 s w.flagged
  pub readings : (d : Looker) → reading_in w.readings d ≡ None
  pub listings : (folder : ℕ) (actor : List ℕ) → value_at w.listings.all folder actor ≡ None
  pub claims : (actor : List ℕ) → actor_in w.claims actor ≡ None

-- After so many steps these directories are there, and this is what the monitor keeps.
pub record Remembers (n : ℕ) (s : State) (kept : Kept) (w : Memory) : Type 0 where
  pub steps : w.steps ≡ n
  pub presences : ArePresences n s w.presences
  pub flagged : AreFlagged n s w.flagged
  pub readings : AreReadings n s w.presences kept.readings w.readings
  pub listings : AreListings n s w.presences kept.listings w.listings
  pub claims : AreClaims n s w.presences w.flagged w.claims kept.claims

-- what is remembered is so of a history
abbrev pub Recalls : History → Memory → Type 0
Recalls (opening m) w = Begins m.state w
Recalls (next past x) w = Remembers (steps_of past + 1) (at (next past x)) (kept_of (next past x)) w

-- ---- at the beginning

-- A path comes to name a file.
pub record Puts (p : Path) (old new : Memory) : Type 0 where
  pub steps : new.steps ≡ old.steps
  pub presences : new.presences ≡ old.presences
  pub flagged : flagged.Puts p old.flagged new.flagged
  pub readings : new.readings ≡ old.readings
  pub listings : new.listings ≡ old.listings
  pub claims : new.claims ≡ old.claims

-- ---- what a step is found to break

-- What is remembered of messages, and those that are there.
pub record IsPast (m : Messages) (w : Memory) (p : Past) : Type 0 where
  pub messages : p.messages.now ≡ m
  pub presences : p.presences.now ≡ w.presences
  pub flagged : p.flagged.now ≡ w.flagged
  pub now : p.now ≡ w.steps

-- What an answer breaks, by what is remembered.
pub record Tells (x : Step) (m : Messages) (w : Memory) (told : Told) : Type 0 where
  pub past : Past
  pub is_past : IsPast m w past
  pub gave_up : told.gave_up ≡ is_told_and x.call x.actor (claims.is_given_up_in past w.claims)
  pub falsely : told.falsely ≡ is_told_and x.call x.actor (claims.is_false_in past w.claims)
  -- the flags of which an answer tells are letters
  pub letters : (flags : Set) (folder : ℕ) (unique : List ℕ) → x.call ≡ call.Answer (said.Flags flags) folder unique → IsOfLetters flags

-- What is there of the folder.
pub record IsThere (paths : Paths) (w : Memory) (there : Present) : Type 0 where
  pub new : there.new.now ≡ names_in paths (directory_number there.folder New)
  pub cur : there.cur.now ≡ names_in paths (directory_number there.folder Cur)
  pub presences : there.presences.now ≡ w.presences

-- The whole reading of a directory goes into a listing, which lacks a message or not.
pub record Joins (d : Looker) (r : Reading) (paths : Paths) (old : Memory) (new : Listings) (lacks : Bool) : Type 0 where
  pub there : Present
  pub is_there : IsThere paths old there
  pub folder : there.folder ≡ d.folder
  pub unlisted : lacks ≡ is_unlisted (listing_in old.listings there.folder d.actor) d.place r old.steps there
  pub completes : Completes d.actor d.folder d.place r old.steps old.listings new

-- where there is one
abbrev pub joining : Looker → Option Reading → Paths → Memory → Listings → Bool → Type 0
joining d None paths old new lacks = (new ≡ old.listings) × (lacks ≡ false)
joining d (Some r) paths old new lacks = Joins d r paths old new lacks

-- Nothing but readings and listings is changed.
pub record Stays (old new : Memory) : Type 0 where
  pub steps : new.steps ≡ old.steps
  pub presences : new.presences ≡ old.presences
  pub flagged : new.flagged ≡ old.flagged
  pub claims : new.claims ≡ old.claims

pub record Lists (d : Looker) (whole : Option Reading) (paths : Paths) (old new : Memory) (lacks : Bool) : Type 0 where
  pub stays : Stays old new
  pub readings : new.readings ≡ old.readings
  pub listings : joining d whole paths old new.listings lacks

-- A part of a reading of a directory answers so, and shows these names.
pub record ReadsPart (d : Looker) (r : Reply) (shown : List (List ℕ)) (paths : Paths) (old new : Memory) (read : Read) : Type 0 where
  pub stays : Stays old new
  pub misread : read.misread ≡ is_wrong paths old.presences.names d old.steps (reading_in old.readings d) r shown
  pub whole : Option Reading
  pub readings : TakesPart old.steps d r shown old.readings new.readings whole
  pub listings : joining d whole paths old new.listings read.unlisted

-- An actor's call reads nothing, and breaks its listings off.
pub record BreaksOff (actor : List ℕ) (old new : Memory) (read : Read) : Type 0 where
  pub stays : Stays old new
  pub readings : new.readings ≡ old.readings
  pub listings : Breaks actor old.listings new.listings
  pub misread : read.misread ≡ false
  pub unlisted : read.unlisted ≡ false

-- a call by an actor
abbrev pub Reads : List ℕ → Call → Paths → Memory → Memory → Read → Type 0
Reads actor (call.List folder place r shown) paths old new read =
    ReadsPart (record { actor = actor; folder = folder; place = place }) r shown paths old new read
Reads actor c paths old new read = BreaksOff actor old new read

-- A step.
pub record Hears (x : Step) (paths : Paths) (m : Messages) (old new : Memory) (heard : Heard) : Type 0 where
  pub reads : Reads x.actor x.call paths old new heard.read
  pub tells : Tells x m old heard.told

-- ---- how it goes on

-- The step changes paths so: their messages were in their folders before it, and are after it.
pub record Follows (x : Step) (t : Turn) (before after : InFolders) (old new : Memory) : Type 0 where
  pub steps : new.steps ≡ old.steps + 1
  pub presences : presences.Follows t before after old.steps old.presences new.presences
  pub flagged : flagged.Follows t old.steps old.flagged new.flagged
  pub readings : new.readings ≡ old.readings
  pub listings : new.listings ≡ old.listings
  pub claims : claims.Steps x t before after (old.steps + 1) old.claims new.claims
