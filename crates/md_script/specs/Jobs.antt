-- The calls that a script submits, and how a line spells one.
use Rattle.std.specs.Prelude.{ℕ, List, Option, Some, None, Result, Ok, Err, if◌then◌else◌, codes, ok_or}
use Rattle.std.specs.Str.{bytes_eq}
use Rattle.md_name.specs.declared.error.NameError.TheVariants.{BadFlag}
use Rattle.md_name.specs.Letters.{Set}
use Rattle.md_jobs.specs.declared.call.Call.{Call}
use Rattle.md_jobs.specs.declared.call.Call.TheVariants as call
use Rattle.md_script.specs.declared.error.PlayKind.{PlayKind}
use Rattle.md_script.specs.declared.error.PlayKind.TheVariants.{BadCommand, UnknownFolder, Name}
use Rattle.md_text.specs.Bind.{◌>>=◌}
use Rattle.md_text.specs.Words.{Rest}
use Rattle.md_text.specs.Flags.{flags_in}
use Rattle.md_text.specs.Folders.{place_of}
use Rattle.md_script.specs.Words.{word_at, end_at, number_at, body_at}

-- the next word as the number of a folder
unfoldable pub folder_at : List (List ℕ) → Rest → Result (ℕ × Rest) PlayKind
folder_at folders rest = do
  name ← word_at rest
  place ← ok_or (place_of folders name.0) UnknownFolder
  Ok (place, name.1)

-- the next word as flags
unfoldable pub flags_at : Rest → Result (Set × Rest) PlayKind
flags_at rest = do
  word ← word_at rest
  flags ← ok_or (flags_in word.0) (Name BadFlag)
  Ok (flags, word.1)

-- the last word, a number of tries
unfoldable pub tries_at : Rest → Result ℕ PlayKind
tries_at rest = do
  tries ← number_at rest
  _ ← end_at tries.1
  Ok tries.0

-- the words of `job deliver` after the second
unfoldable pub deliver_line : List (List ℕ) → Rest → Result Call PlayKind
deliver_line folders rest = do
  folder ← folder_at folders rest
  unique ← word_at folder.1
  chunk ← number_at unique.1
  body ← body_at chunk.1
  Ok (call.Deliver folder.0 unique.0 body chunk.0)

-- the words of `job seen` after the second
unfoldable pub seen_line : List (List ℕ) → Rest → Result Call PlayKind
seen_line folders rest = do
  folder ← folder_at folders rest
  unique ← word_at folder.1
  flags ← flags_at unique.1
  tries ← tries_at flags.1
  Ok (call.Seen folder.0 unique.0 flags.0 tries)

-- the words of `job flag` after the second
unfoldable pub flag_line : List (List ℕ) → Rest → Result Call PlayKind
flag_line folders rest = do
  folder ← folder_at folders rest
  unique ← word_at folder.1
  add ← flags_at unique.1
  remove ← flags_at add.1
  tries ← tries_at remove.1
  Ok (call.Flag folder.0 unique.0 add.0 remove.0 tries)

-- the words of `job move` after the second
unfoldable pub move_line : List (List ℕ) → Rest → Result Call PlayKind
move_line folders rest = do
  folder ← folder_at folders rest
  unique ← word_at folder.1
  to ← folder_at folders unique.1
  tries ← tries_at to.1
  Ok (call.Move folder.0 unique.0 to.0 tries)

-- the words of `job expunge` after the second
unfoldable pub expunge_line : List (List ℕ) → Rest → Result Call PlayKind
expunge_line folders rest = do
  folder ← folder_at folders rest
  unique ← word_at folder.1
  tries ← tries_at unique.1
  Ok (call.Expunge folder.0 unique.0 tries)

-- the words of `job copy` after the second
unfoldable pub copy_line : List (List ℕ) → Rest → Result Call PlayKind
copy_line folders rest = do
  folder ← folder_at folders rest
  unique ← word_at folder.1
  to ← folder_at folders unique.1
  fresh ← word_at to.1
  tries ← tries_at fresh.1
  Ok (call.Copy folder.0 unique.0 to.0 fresh.0 tries)

-- the words of `job clean` after the second
unfoldable pub clean_line : List (List ℕ) → Rest → Result Call PlayKind
clean_line folders rest = do
  folder ← folder_at folders rest
  _ ← end_at folder.1
  Ok (call.Clean folder.0)

-- the words after `job` and the word after it
abbrev pub call_line : List (List ℕ) → List ℕ → Rest → Result Call PlayKind
call_line folders verb rest =
    if bytes_eq verb (codes "deliver") then deliver_line folders rest
    else (if bytes_eq verb (codes "seen") then seen_line folders rest
    else (if bytes_eq verb (codes "flag") then flag_line folders rest
    else (if bytes_eq verb (codes "move") then move_line folders rest
    else (if bytes_eq verb (codes "expunge") then expunge_line folders rest
    else (if bytes_eq verb (codes "copy") then copy_line folders rest
    else (if bytes_eq verb (codes "clean") then clean_line folders rest else Err BadCommand))))))
