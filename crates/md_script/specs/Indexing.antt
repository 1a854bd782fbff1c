-- The index of a script, and where it is refused.
use Rattle.std.specs.Prelude.{false, ℕ, ◌+◌, List, [], ◌∷◌, ◌++◌, Option, Some, None, Result, Ok, Err, flat_map, length, unwrap_or, codes}
use Rattle.std.specs.Option.{option_map}
use Rattle.std.specs.FinMap as finmap
use Rattle.md_dirs.specs.declared.image.ImageFile.{ImageFile}
use Rattle.md_dirs.specs.declared.paths.Place.TheVariants.{New, Cur}
use Rattle.md_head.specs.Header.{lines_of}
use Rattle.md_head.specs.Summaries.{summary_of}
use Rattle.md_head.specs.declared.shown.Summary.{Summary}
use Rattle.md_core.specs.Mailbox.{Entry as Message, Mailbox, mailbox_of}
use Rattle.md_core.specs.History.{names_of}
use Rattle.md_core.specs.Runs.{Run, dirs_of}
use Rattle.md_listing.specs.declared.entry.Entry.{Entry}
use Rattle.md_listing.specs.Readings.{reading_of, join_of}
use Rattle.md_script.specs.declared.error.PlayKind.{PlayKind}
use Rattle.md_script.specs.declared.error.PlayError.{PlayError}
use Rattle.md_text.specs.Bind.{◌>>=◌}
use Rattle.md_script.specs.Sessions.{run_over}
use Rattle.md_script.specs.Setups.{Setting, setting_of}
use Rattle.md_script.specs.Texts.{line_end, summary_text}
use Rattle.md_script.specs.Transcript.{Transcript}

-- the listing of a folder where both its readings are made at one moment
abbrev pub listing_in : Mailbox → ℕ → List Entry
listing_in m folder = join_of (reading_of (names_of m) folder New) (reading_of (names_of m) folder Cur)

-- the bytes of the message of a unique name
abbrev pub bytes_in : Mailbox → List ℕ → List ℕ
bytes_in m u = unwrap_or (option_map (λ (message : Message). message.bytes) (finmap.get m u)) []

-- `FOLDER UNIQUE`, the lines of a summary, and `end`
abbrev pub indexed_text : List ℕ → List ℕ → Summary → List ℕ
indexed_text name unique summary = name ++ codes " " ++ unique ++ line_end ++ summary_text summary

-- a message of a listing, with the one summary of its bytes
abbrev pub message_text : Mailbox → List ℕ → Entry → List ℕ
message_text m name e = indexed_text name e.unique (summary_of (bytes_in m e.unique))

-- the messages of a folder in order of unique name
abbrev pub folder_text : Mailbox → ℕ → List ℕ → List ℕ
folder_text m folder name = flat_map (message_text m name) (listing_in m folder)

-- the texts of folders of these names, of which the first has this number
unfoldable pub of_folders : (ℕ → List ℕ → List ℕ) → ℕ → List (List ℕ) → List ℕ
of_folders text folder [] = []
of_folders text folder (name ∷ names) = text folder name ++ of_folders text (folder + 1) names

-- the index of the messages of a store
abbrev pub index_of_run : List (List ℕ) → Run → List ℕ
index_of_run names r = of_folders (folder_text (mailbox_of (dirs_of r))) 0 names

-- the index over a store of folders and files, or why it can't be opened
unfoldable pub index_over : List (List ℕ) → List ImageFile → Result (List ℕ) PlayKind
index_over names files = run_over (length names) files >>= (λ r. Ok (index_of_run names r))

-- a refusal of a line
abbrev pub at_line : {X : Type 0} → ℕ → Result X PlayKind → Result X PlayError
at_line line (Ok x) = Ok x
at_line line (Err kind) = Err (record { line = line; kind = kind })

-- the index of what was set up, where no line was refused
abbrev pub index_by : ℕ → Transcript Setting → Option PlayError → Result (List ℕ) PlayError
index_by lines t (Some e) = Err e
index_by lines t None = at_line lines (index_over t.session.folders t.session.files)

-- The index of a script, which has folders and files alone. A store that can't be opened is refused at the script's last line.
abbrev pub index_of_script : List ℕ → Result (List ℕ) PlayError
index_of_script script = index_by (length (lines_of script)) (setting_of false script) (setting_of false script).refusal
