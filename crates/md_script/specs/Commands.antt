-- The commands of a script, and how a line spells one.
use Rattle.std.specs.Prelude.{ℕ, List, Option, Some, None, Result, Ok, ok_or}
use Rattle.md_dirs.specs.declared.paths.Place.{Place}
use Rattle.md_dirs.specs.declared.image.ImageFile.{ImageFile}
use Rattle.md_jobs.specs.declared.call.Call.{Call}
use Rattle.md_jobs.specs.declared.step.Event.{Event}
use Rattle.md_script.specs.declared.error.PlayKind.{PlayKind}
use Rattle.md_script.specs.declared.error.PlayKind.TheVariants.{BadCommand, BadFolder, BadPlace}
use Rattle.md_script.specs.declared.verb.Verb.{Verb}
use Rattle.md_script.specs.declared.verb.Verb.TheVariants as verb
use Rattle.md_script.specs.declared.verb.Mode.{Mode}
use Rattle.md_text.specs.Bind.{◌>>=◌, require}
use Rattle.md_text.specs.Words.{Rest}
use Rattle.md_text.specs.Places.{place_named}
use Rattle.md_script.specs.Words.{word_at, end_at, number_at, body_at}
use Rattle.md_script.specs.Folders.{can_add}
use Rattle.md_script.specs.Verb.{verb_of, admitted}
use Rattle.md_script.specs.Jobs.{folder_at, call_line}

-- A command. Folders are numbered from 0 in the order in which they were named, and jobs from 1.
pub data Command : Type 0 where
  make_folder : (name : List ℕ) → Command
  make_file : (file : ImageFile) → Command
  submit : (call : Call) → Command
  step : (event : Event) → Command
  finish : (event : Event) → Command
  list : (folder : ℕ) → Command
  first : (folder : ℕ) → Command
  second : (folder : ℕ) → Command
  read : (unique : List ℕ) → Command
  make_name : (sec micro pid count : ℕ) (host : List ℕ) → Command
  summarize : (message : List ℕ) → Command

-- the words of `folder` after the first
unfoldable pub folder_line : List (List ℕ) → Rest → Result Command PlayKind
folder_line folders rest = do
  name ← word_at rest
  _ ← require (can_add folders name.0) BadFolder
  _ ← end_at name.1
  Ok (make_folder name.0)

-- the next word as a directory of a maildir
unfoldable pub place_at : Rest → Result (Place × Rest) PlayKind
place_at rest = do
  word ← word_at rest
  place ← ok_or (place_named word.0) BadPlace
  Ok (place, word.1)

-- the words of `file` after the first
unfoldable pub file_line : List (List ℕ) → Rest → Result Command PlayKind
file_line folders rest = do
  folder ← folder_at folders rest
  place ← place_at folder.1
  name ← word_at place.1
  stamp ← number_at name.1
  body ← body_at stamp.1
  Ok (make_file (record { path = record { folder = folder.0; place = place.0; name = name.0 }; bytes = body; stamp = stamp.0 }))

-- the words of `job` after the first
unfoldable pub submit_line : List (List ℕ) → Rest → Result Command PlayKind
submit_line folders rest = do
  word ← word_at rest
  call ← call_line folders word.0 word.1
  Ok (submit call)

-- the last word as a number, where it is not left out
unfoldable pub own_at : Rest → Result (Option ℕ) PlayKind
own_at None = Ok None
own_at (Some text) = do
  own ← number_at (Some text)
  _ ← end_at own.1
  Ok (Some own.0)

-- the last words: a job, a moment, and perhaps the job's own moment
unfoldable pub event_at : Rest → Result Event PlayKind
event_at rest = do
  job ← number_at rest
  now ← number_at job.1
  own ← own_at now.1
  Ok (record { job = job.0; now = now.0; own = own })

-- the last word, a folder
unfoldable pub only_folder : List (List ℕ) → Rest → Result ℕ PlayKind
only_folder folders rest = do
  folder ← folder_at folders rest
  _ ← end_at folder.1
  Ok folder.0

-- the words of `read` after the first
unfoldable pub read_line : Rest → Result Command PlayKind
read_line rest = do
  unique ← word_at rest
  _ ← end_at unique.1
  Ok (read unique.0)

-- the words of `unique` after the first
unfoldable pub unique_line : Rest → Result Command PlayKind
unique_line rest = do
  sec ← number_at rest
  micro ← number_at sec.1
  pid ← number_at micro.1
  count ← number_at pid.1
  host ← word_at count.1
  _ ← end_at host.1
  Ok (make_name sec.0 micro.0 pid.0 count.0 host.0)

-- the words of a line after its first, by which command that names
abbrev pub verb_line : List (List ℕ) → Verb → Rest → Result Command PlayKind
verb_line folders verb.Folder rest = folder_line folders rest
verb_line folders verb.File rest = file_line folders rest
verb_line folders verb.Job rest = submit_line folders rest
verb_line folders verb.Step rest = event_at rest >>= (λ event. Ok (step event))
verb_line folders verb.Finish rest = event_at rest >>= (λ event. Ok (finish event))
verb_line folders verb.List rest = only_folder folders rest >>= (λ folder. Ok (list folder))
verb_line folders verb.First rest = only_folder folders rest >>= (λ folder. Ok (first folder))
verb_line folders verb.Second rest = only_folder folders rest >>= (λ folder. Ok (second folder))
verb_line folders verb.Read rest = read_line rest
verb_line folders verb.Unique rest = unique_line rest
verb_line folders verb.Summary rest = body_at rest >>= (λ message. Ok (summarize message))

-- the command that a line spells, from the folders that were named before it and what the line is read for
unfoldable pub command_at : List (List ℕ) → Mode → List ℕ → Result Command PlayKind
command_at folders mode line = do
  word ← word_at (Some line)
  verb ← ok_or (verb_of word.0) BadCommand
  _ ← admitted mode verb
  verb_line folders verb word.1
