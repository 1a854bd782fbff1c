-- What is kept of readings of directories, how a part of one goes on with it, and whether it is answered as no directory answers it.
use Rattle.std.specs.Prelude.{ℕ, ◌≡◌, ◌≤◌, ◌&&◌, ◌||◌, not, List, Option, Some, None, Bool, true, false, is_some, if◌then◌else◌}
use Rattle.std.specs.List.{list_any}
use Rattle.std.specs.Str.{bytes_eq}
use Rattle.indexmap.specs.IndexSet.{contains}
use Rattle.md_dirs.specs.Index.{directory_number}
use Rattle.md_law.specs.Values.{State, Place, Reply}
use Rattle.md_name.specs.Names.{unique_of, is_message_name}
use Rattle.md_log.specs.declared.line.Reply.TheVariants as reply
use Rattle.md_law.specs.Messages.{is_tmp}
use Rattle.md_law.specs.Readings.{Looker}
use Rattle.md_monitor.specs.Messages.{is_there}
use Rattle.md_monitor.specs.Readings.{ReadingKept, has_name, is_name_of}
use Rattle.md_kept.specs.declared.directory.Directory.{Directory}
use Rattle.md_kept.specs.declared.paths.Paths.{Paths}
use Rattle.md_watch.specs.declared.presences.Presences.{Presences}
use Rattle.md_watch.specs.declared.readings.Part.{Part}
use Rattle.md_watch.specs.declared.readings.Reading.{Reading}
use Rattle.md_watch.specs.declared.readings.Readings.{Readings}
use Rattle.md_watch.specs.declared.spells.Spell.{Spell}
use Rattle.md_watch.specs.declared.spells.Spells.{Spells}
use Rattle.md_kept.specs.Directories.{file_by, names_by, directory_in}
use Rattle.md_watch.specs.Spells.{always_by, ever_by, spell_at}
use Rattle.md_kept.specs.Tables.{value_at, is_key}

-- ---- an open reading, where there is one

-- since which moment it goes; one that would begin goes since now
abbrev pub begun_of : ℕ → Option Reading → ℕ
begun_of n None = n
begun_of n (Some r) = r.begun

-- a part so far shows the name, or the message of a unique name
abbrev pub has_shown : Option Reading → List ℕ → Bool
has_shown None name = false
has_shown (Some r) name = contains bytes_eq r.names name

abbrev pub has_shown_message : Option Reading → List ℕ → Bool
has_shown_message None unique = false
has_shown_message (Some r) unique = contains bytes_eq r.uniques unique

-- an actor's reading of a directory, where one is not over
abbrev pub reading_in : Readings → Looker → Option Reading
reading_in w d = value_at w.all (directory_number d.folder d.place) d.actor

-- ---- what tables hold of readings, by the directories and what the monitor keeps

abbrev pub name_spell : Presences → Looker → List ℕ → Option Spell
name_spell p d name = spell_at p.names (directory_number d.folder d.place) name

abbrev pub message_spell : Presences → Looker → List ℕ → Option Spell
message_spell p d unique = spell_at p.messages d.folder unique

-- What is kept of a reading says what the monitor keeps of it, after n steps.
pub record IsReadingKept (n : ℕ) (s : State) (p : Presences) (d : Looker) (kept : ReadingKept) (o : Option Reading) : Type 0 where
  pub is_open : kept.is_open ≡ is_some o
  pub begun : begun_of n o ≤ n
  pub was_there : (name : List ℕ) → kept.was_there name ≡ ever_by (has_name s d name) (name_spell p d name) (begun_of n o)
  pub was_always : (name : List ℕ) → kept.was_always name ≡ always_by (has_name s d name) (name_spell p d name) (begun_of n o) n
  pub is_shown : (name : List ℕ) → kept.is_shown name ≡ has_shown o name
  pub message_was_always : (unique : List ℕ)
      → kept.message_was_always unique ≡ always_by (is_there s d.folder unique) (message_spell p d unique) (begun_of n o) n
  pub message_is_shown : (unique : List ℕ) → kept.message_is_shown unique ≡ has_shown_message o unique

abbrev pub AreReadings : ℕ → State → Presences → (Looker → ReadingKept) → Readings → Type 0
AreReadings n s p kept w = (d : Looker) → IsReadingKept n s p d (kept d) (reading_in w d)

-- ---- how a part goes on with a reading

abbrev pub looker_of : Part → Looker
looker_of part = record { actor = part.actor.now; folder = part.folder; place = part.place }

-- the unique name of a message, where a name of a directory is one
abbrev pub message_named : Place → List ℕ → Option (List ℕ)
message_named place name = if not (is_tmp place) && is_message_name name then Some (unique_of name) else None

-- in the directory the name is one of the message of a unique name
abbrev pub is_named : Place → List ℕ → List ℕ → Bool
is_named place unique name = (not (is_tmp place) && is_message_name name) && bytes_eq (unique_of name) unique

-- These names are shown too.
pub record Adds (place : Place) (shown : List (List ℕ)) (old new : Reading) : Type 0 where
  pub begun : new.begun ≡ old.begun
  pub names : (name : List ℕ)
      → contains bytes_eq new.names name ≡ (list_any (λ other. bytes_eq other name) shown || contains bytes_eq old.names name)
  pub uniques : (unique : List ℕ)
      → contains bytes_eq new.uniques unique ≡ (list_any (is_named place unique) shown || contains bytes_eq old.uniques unique)

-- It is the reading that was open, or one that begins with the step of a number, and shows these names too.
pub record TakesIn (n : ℕ) (d : Looker) (shown : List (List ℕ)) (o : Option Reading) (r : Reading) : Type 0 where
  pub begun : r.begun ≡ begun_of n o
  pub names : (name : List ℕ) → contains bytes_eq r.names name ≡ (list_any (λ other. bytes_eq other name) shown || has_shown o name)
  pub uniques : (unique : List ℕ)
      → contains bytes_eq r.uniques unique ≡ (list_any (is_name_of d unique) shown || has_shown_message o unique)

module _ (n : ℕ) (d : Looker) (shown : List (List ℕ)) (o : Option Reading) where
  -- there is that reading
  abbrev pub IsTakenIn : Option Reading → Type 0
  IsTakenIn None = ⊥
  IsTakenIn (Some r) = TakesIn n d shown o r

  -- by what the part answers: the reading that is open then, and the whole one
  abbrev pub Leaves : Reply → Option Reading → Option Reading → Type 0
  Leaves reply.More left whole = IsTakenIn left × (whole ≡ None)
  Leaves reply.Ok left whole = (left ≡ None) × IsTakenIn whole
  Leaves r left whole = (left ≡ None) × (whole ≡ None)

-- The step of a number is a part of a reading, which answers so and shows these names. Where it is the last, the reading is whole.
pub record TakesPart (n : ℕ) (d : Looker) (r : Reply) (shown : List (List ℕ)) (old new : Readings) (whole : Option Reading) : Type 0 where
  pub here : Leaves n d shown (reading_in old d) r (reading_in new d) whole
  pub others : (m : ℕ) (q : List ℕ) → is_key (directory_number d.folder d.place, d.actor) (m, q) ≡ false
      → value_at new.all m q ≡ value_at old.all m q

-- ---- what a part is found to be

-- by a directory of a number, where any of its names was ever there, and since when a reading of it goes
module _ (o : Option Directory) (names : Spells) (number begun : ℕ) where
  -- it had the name at a moment since then
  abbrev pub has_then : List ℕ → Bool
  has_then name = ever_by (is_some (file_by o name)) (spell_at names number name) begun

  -- one of these names was there at no moment
  abbrev pub shows_other : List (List ℕ) → Bool
  shows_other shown = list_any (λ name. not (has_then name)) shown

  -- it has a name that was there at each moment, and that no part shows
  abbrev pub lacks : (List ℕ → Bool) → ℕ → Bool
  lacks is_shown n = list_any (λ name. not (is_shown name) && always_by true (spell_at names number name) begun n) (names_by o)

  abbrev pub is_answered_wrongly : (List ℕ → Bool) → ℕ → Reply → List (List ℕ) → Bool
  is_answered_wrongly is_shown n reply.Ok shown = shows_other shown || lacks is_shown n
  is_answered_wrongly is_shown n reply.More shown = shows_other shown
  is_answered_wrongly is_shown n reply.NotFound shown = true
  is_answered_wrongly is_shown n r shown = false

-- a part that answers so, and shows these names, is answered as no directory answers it
abbrev pub is_wrong : Paths → Spells → Looker → ℕ → Option Reading → Reply → List (List ℕ) → Bool
is_wrong t names d n o r shown =
    let number = directory_number d.folder d.place in
    is_answered_wrongly (directory_in t number) names number (begun_of n o)
    (λ name. list_any (λ other. bytes_eq other name) shown || has_shown o name) n r shown
