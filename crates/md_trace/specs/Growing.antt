-- A log that grows.
use Rattle.std.specs.Prelude.{ℕ, ◌≡◌, ◌⊎◌, ◌==◌, List, [], ◌∷◌, ◌++◌, map, take, Option, None, Some, option_map, slice_get, if◌then◌else◌, codes}
use Rattle.std.specs.Fmt.{decimal}
use Rattle.std.specs.List.{flat_map}
use Rattle.md_dirs.specs.declared.paths.Place.{Place}
use Rattle.md_core.specs.declared.Answer.{Answer}
use Rattle.md_script.specs.Texts.{answer_text}
use Rattle.md_script.specs.declared.error.PlayError.{PlayError}
use Rattle.md_script.specs.declared.error.PlayKind.{PlayKind}
use Rattle.md_script.specs.declared.error.PlayKind.TheVariants.{BadNumber, NoMemory}
use Rattle.md_text.specs.Escapes.{escape}
use Rattle.md_text.specs.Places.{place_text}
use Rattle.md_trace.specs.declared.text.Log.{Log}

-- The log has these bytes more. One that was refused stays as it is. One that is refused now lacks memory, and may have a part of them.
pub record Grows (bytes : List ℕ) (old new : Log) : Type 0 where
  pub stays : (kind : PlayKind) → old.refused ≡ Some kind → new ≡ old
  pub text : new.refused ≡ None → new.text.items ≡ old.text.items ++ bytes
  pub memory : old.refused ≡ None → (kind : PlayKind) → new.refused ≡ Some kind → kind ≡ NoMemory
  pub folders : new.folders ≡ old.folders
  pub line : new.line ≡ old.line
  pub before : new.before ≡ old.before

-- The log has these bytes more, if they are fit for a log. One that was refused stays as it is. One that is refused now lacks memory, or
-- has a bad number since they are not fit, and may have a part of them.
pub record GrowsIf (AreFit : Type 0) (bytes : List ℕ) (old new : Log) : Type 0 where
  pub stays : (kind : PlayKind) → old.refused ≡ Some kind → new ≡ old
  pub text : new.refused ≡ None → AreFit × (new.text.items ≡ old.text.items ++ bytes)
  pub refused : old.refused ≡ None → (kind : PlayKind) → new.refused ≡ Some kind → (kind ≡ NoMemory) ⊎ ((kind ≡ BadNumber) × (AreFit → ⊥))
  pub folders : new.folders ≡ old.folders
  pub line : new.line ≡ old.line
  pub before : new.before ≡ old.before

-- how a log begins
abbrev pub begin_text : List ℕ
begin_text = codes "maildir_log 1\nallow NotFlushed\n"

-- the greatest number of a log, of 19 digits
abbrev pub most : ℕ
most = 9999999999999999999

-- a byte of a name: a space is escaped too
abbrev pub escape_name : ℕ → List ℕ
escape_name b = if b == 32 then codes "\\s" else escape b

-- a name
abbrev pub name_text : List ℕ → List ℕ
name_text name = flat_map escape_name name

-- the name of a folder, if there is one of the number
abbrev pub folder_text : Option (List ℕ) → List ℕ
folder_text None = []
folder_text (Some name) = name_text name

-- the names of the folders, by their numbers
abbrev pub folder_names : Log → List (List ℕ)
folder_names log = map (λ name. name.items) log.folders.items

-- as a log has it
abbrev pub folder_in : Log → ℕ → List ℕ
folder_in log folder = folder_text (option_map (λ name. name.items) (slice_get log.folders.items folder))

-- ` FOLDER UNIQUE`
abbrev pub message_text : Log → ℕ → List ℕ → List ℕ
message_text log folder unique = codes " " ++ folder_in log folder ++ codes " " ++ name_text unique

-- ` FOLDER/PLACE/NAME`
abbrev pub path_text : Log → ℕ → Place → List ℕ → List ℕ
path_text log folder place name = codes " " ++ folder_in log folder ++ codes "/" ++ place_text place ++ codes "/" ++ name_text name

-- `JOB answer` and the words of an answer, as a script's transcript has them
abbrev pub told_text : ℕ → Answer → List ℕ
told_text job answer = decimal job ++ codes " answer " ++ answer_text answer

-- The log has the line of one folder more, and keeps its name. One that was refused stays as it is. One that is refused now lacks memory,
-- and may have a part of this.
pub record NamesFolder (name : List ℕ) (old new : Log) : Type 0 where
  pub text : new.refused ≡ None → new.text.items ≡ old.text.items ++ codes "folder " ++ name_text name ++ codes "\n"
  pub folders : new.refused ≡ None → folder_names new ≡ folder_names old ++ name ∷ []
  pub refused : (kind : PlayKind) → old.refused ≡ Some kind → (new.refused ≡ Some kind) × (new.text ≡ old.text)
  pub memory : old.refused ≡ None → (kind : PlayKind) → new.refused ≡ Some kind → kind ≡ NoMemory
  pub line : new.line ≡ old.line
  pub before : new.before ≡ old.before

-- the refusal that a log ends with: its own came first, at the line of the script that was run
abbrev pub refusal_of : ℕ → Option PlayKind → Option PlayError → Option PlayError
refusal_of line None given = given
refusal_of line (Some kind) given = Some (record { line = line; kind = kind })

-- what is left of a text: a refused line says nothing
abbrev pub kept_text : Option PlayError → ℕ → List ℕ → List ℕ
kept_text None before text = text
kept_text (Some refusal) before text = take before text
