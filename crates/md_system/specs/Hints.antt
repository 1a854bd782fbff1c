-- What hints, and readings for many errands, may tell one.
use Rattle.std.specs.Prelude.{◌≡◌, ℕ, List, Some, true}
use Rattle.md_dirs.specs.Rows.{is_named}
use Rattle.md_dirs.specs.declared.paths.Place.{Place}
use Rattle.md_dirs.specs.declared.paths.Place.TheVariants.{Tmp, New, Cur}
use Rattle.md_jobs.specs.Machines.Purposes.{decide, info_in, place_after, searches}
use Rattle.md_jobs.specs.declared.purpose.Decision.TheVariants.{Act}
use Rattle.md_jobs.specs.declared.purpose.Purpose.{Purpose}
use Rattle.md_system.specs.declared.found.Found.{Found}
use Rattle.md_system.specs.declared.read_ahead.ReadAhead.{ReadAhead}
use Rattle.md_system.specs.declared.told.Told.{Told}
use Rattle.md_system.specs.declared.told.Told.TheVariants.{Nothing, Elsewhere, Name, Shown}
use Rattle.md_system.specs.Shown.{IsShown}

-- The name is of the message, and the errand acts on it, by a call that fails where the name is gone.
abbrev pub IsActedOn : Purpose → List ℕ → List ℕ → Type 0
IsActedOn purpose unique name = (is_named unique name ≡ true) × (decide purpose (info_in name) ≡ Act)

-- the names that a place showed
abbrev pub names_ahead : ReadAhead → Place → List (List ℕ)
names_ahead ahead Cur = ahead.curs
names_ahead ahead New = ahead.news
names_ahead ahead Tmp = ahead.news

-- A reading counts, and showed this of a message in a place.
pub record Showed (ahead : ReadAhead) (place : Place) (unique : List ℕ) (what : Found (List ℕ)) : Type 0 where
  pub counts : ahead.counts ≡ true
  pub shown : IsShown (names_ahead ahead place) unique what

-- A hint's name is told only where the errand acts on it. That the message is not in a place is told by hints only to an errand that looks
-- in cur after it. Anything else that is told is what a reading showed that counts.
abbrev pub MayTell : ReadAhead → Purpose → Place → List ℕ → Told → Type 0
MayTell ahead purpose place unique Nothing = Unit {0}
MayTell ahead purpose place unique Elsewhere = place_after (searches purpose) place ≡ Some Cur
MayTell ahead purpose place unique (Name name) = IsActedOn purpose unique name
MayTell ahead purpose place unique (Shown what) = Showed ahead place unique what
