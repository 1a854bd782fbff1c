-- The store that a script sets up for threads: its folders and files, and its jobs, of which none was stepped.
use Rattle.std.specs.Prelude.{◌≡◌, ℕ, List, [], ◌∷◌, true, Option, Some, None, Result, Ok, Err, length}
use Rattle.md_dirs.specs.declared.image.ImageFile.{ImageFile}
use Rattle.md_jobs.specs.declared.call.Call.{Call}
use Rattle.md_core.specs.Runs.{Run, and_call}
use Rattle.md_core.specs.Submitting.{submit_refusal}
use Rattle.md_script.specs.declared.error.PlayKind.{PlayKind}
use Rattle.md_script.specs.declared.error.PlayError.{PlayError}
use Rattle.md_text.specs.Bind.{◌>>=◌}
use Rattle.md_text.specs.Folders.{names_of}
use Rattle.md_head.specs.Header.{lines_of}
use Rattle.md_script.specs.Sessions.{run_over, unless_refused}
use Rattle.md_script.specs.Setups.{Setting, setting_of}
use Rattle.md_script.specs.Transcript.{Transcript}
use Rattle.md_runs.specs.declared.threads.setting_up.Made.{Made}
use Rattle.md_script.specs.Indexing.{at_line}

-- a run to which calls were submitted in their order, or the refusal of the first that is refused
unfoldable pub submitted_all : Run → List Call → Result Run PlayKind
submitted_all r [] = Ok r
submitted_all r (call ∷ calls) = unless_refused (submit_refusal r call) (and_call r call) >>= (λ s. submitted_all s calls)

-- the run of a store over folders and files, with its jobs; or why it can't be opened, or one of these not be submitted
unfoldable pub begun_over : List (List ℕ) → List ImageFile → List Call → Result Run PlayKind
begun_over names files calls = run_over (length names) files >>= (λ r. submitted_all r calls)

-- what was set up, begun where no line was refused
abbrev pub begun_by : ℕ → Transcript Setting → Option PlayError → Result Run PlayError
begun_by lines t (Some e) = Err e
begun_by lines t None = at_line lines (begun_over t.session.folders t.session.files t.session.calls)

-- the names of the folders that a script sets up
abbrev pub folders_of : List ℕ → List (List ℕ)
folders_of script = (setting_of true script).session.folders

-- The run that a script sets up, which has folders, files and jobs alone. A store that can't be opened, and a job that can't be submitted,
-- is refused at the script's last line.
abbrev pub begun_of : List ℕ → Result Run PlayError
begun_of script = begun_by (length (lines_of script)) (setting_of true script) (setting_of true script).refusal

-- the program holds what the script sets up
pub record IsBegun (script : List ℕ) (made : Made) : Type 0 where
  pub names : names_of made.names.items ≡ folders_of script
  pub run : begun_of script ≡ Ok made.world
