-- The folders that a log names.
use Rattle.std.specs.Prelude.{ℕ, List, [], ◌∷◌, ◌++◌, length, nat_lt, Result, Ok, is_none, ok_or}
use Rattle.md_log.specs.declared.error.LineFault.{LineFault}
use Rattle.md_log.specs.declared.error.LineFault.TheVariants.{SameFolder, TooManyFolders, UnknownFolder}
use Rattle.md_text.specs.Bind.{◌>>=◌, require}
use Rattle.md_text.specs.Folders.{place_of}
use Rattle.md_log.specs.Names.{name_of}

-- the most folders of a log
abbrev pub most_folders : ℕ
most_folders = 1000

-- the folders with one more: not one that is there, and not one too many
unfoldable pub with_folder : List (List ℕ) → List ℕ → Result (List (List ℕ)) LineFault
with_folder folders name = do
  _ ← require (is_none (place_of folders name)) SameFolder
  _ ← require (nat_lt (length folders) most_folders) TooManyFolders
  Ok (folders ++ name ∷ [])

-- the number of the folder that a word names
unfoldable pub folder_of : List (List ℕ) → List ℕ → Result ℕ LineFault
folder_of folders word = do
  name ← name_of word
  ok_or (place_of folders name) UnknownFolder
