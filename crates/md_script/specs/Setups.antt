-- What the lines of a script set up: folders, files and calls, of which nothing is loaded and nothing runs.
use Rattle.std.specs.Prelude.{◌≡◌, ℕ, Bool, List, [], ◌∷◌, ◌++◌, Result, Ok, Err}
use Rattle.md_dirs.specs.declared.image.ImageFile.{ImageFile}
use Rattle.md_jobs.specs.declared.call.Call.{Call}
use Rattle.md_script.specs.declared.error.PlayKind.{PlayKind}
use Rattle.md_script.specs.declared.error.PlayKind.TheVariants.{NotInThisRun}
use Rattle.md_script.specs.declared.setup.Setup.{Setup}
use Rattle.md_script.specs.declared.verb.Mode.TheVariants.{SettingUp}
use Rattle.md_text.specs.Bind.{◌>>=◌}
use Rattle.md_text.specs.Folders.{names_of}
use Rattle.md_script.specs.Commands.{Command, make_folder, make_file, submit, command_at}
use Rattle.md_script.specs.Transcript.{Transcript, transcript_of}

-- whether jobs are allowed, and the names of the folders, the files and the calls, each in the order of their lines
pub record Setting : Type 0 where
  pub with_jobs : Bool
  pub folders : List (List ℕ)
  pub files : List ImageFile
  pub calls : List Call

-- a command that is done prints nothing
abbrev pub printing_nothing : Setting → Result (Setting × List ℕ) PlayKind
printing_nothing s = Ok (s, [])

-- a folder, a file or a call is noted, in the order of their lines; another command is `not in this run`
abbrev pub set_up : Setting → Command → Result (Setting × List ℕ) PlayKind
set_up s (make_folder name) = printing_nothing (record s { folders = s.folders ++ name ∷ [] })
set_up s (make_file file) = printing_nothing (record s { files = s.files ++ file ∷ [] })
set_up s (submit call) = printing_nothing (record s { calls = s.calls ++ call ∷ [] })
set_up s other = Err NotInThisRun

-- a line of a set-up: the command that it spells, noted
unfoldable pub setting_line : Setting → List ℕ → Result (Setting × List ℕ) PlayKind
setting_line s line = command_at s.folders (SettingUp s.with_jobs) line >>= set_up s

-- nothing
abbrev pub new_setting : Bool → Setting
new_setting with_jobs = record { with_jobs = with_jobs; folders = []; files = []; calls = [] }

-- what the lines of a script set up, or the first that is refused
abbrev pub setting_of : Bool → List ℕ → Transcript Setting
setting_of with_jobs script = transcript_of setting_line (new_setting with_jobs) script

-- the lists of a setup
pub record IsSetup (s : Setting) (held : Setup) : Type 0 where
  pub folders : names_of held.folders.items ≡ s.folders
  pub files : held.files.items ≡ s.files
  pub calls : held.calls.items ≡ s.calls
