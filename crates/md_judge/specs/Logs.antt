-- A log, read: what there is at its beginning, and its steps.
use Rattle.std.specs.Prelude.{ℕ, suc, Bool, not, List, [], ◌∷◌, ◌++◌, length, nat_lt, Result, Ok, Err, is_some, if◌then◌else◌, codes}
use Rattle.std.specs.Str.{bytes_eq}
use Rattle.md_dirs.specs.State.{bare}
use Rattle.md_law.specs.Values.{State, file_at, Path, Clause, Step}
use Rattle.md_dirs.specs.Calls.{with_new_file, with_path, empty_file}
use Rattle.md_head.specs.Header.{lines_of}
use Rattle.md_log.specs.declared.error.LineFault.{LineFault}
use Rattle.md_log.specs.declared.error.LineFault.TheVariants.{NoLog, SamePath, NoSuchPath}
use Rattle.md_log.specs.declared.error.LogFault.{LogFault}
use Rattle.md_log.specs.declared.line.Line.{Line}
use Rattle.md_log.specs.declared.line.Line.TheVariants as line
use Rattle.md_text.specs.Bind.{◌>>=◌, require}
use Rattle.md_text.specs.Words.{is_passed_over}
use Rattle.md_log.specs.Folders.{with_folder}
use Rattle.md_log.specs.Lines.{line_of}

-- a step, and the number of its line
pub record Numbered : Type 0 where
  pub number : ℕ
  pub step : Step

-- A log: the folders and the clauses that it names, what there is at its beginning, and its steps.
pub record Log : Type 0 where
  -- the names of the folders, in the order in which they were named
  pub folders : List (List ℕ)
  -- the clauses that are not judged
  pub allowed : List Clause
  -- the directories at the beginning
  pub opening : State
  pub steps : List Numbered

-- a log of no line
abbrev pub empty_log : Log
empty_log = record { folders = []; allowed = []; opening = bare 0; steps = [] }

-- a log with one more folder: no line before names it, and there are not too many
unfoldable pub with_folder_line : Log → List ℕ → Result Log LineFault
with_folder_line l name = do
  folders ← with_folder l.folders name
  Ok (record l { folders = folders; opening = record l.opening { folders = length folders } })

-- a log with one more file at the beginning: no line before puts a file at its path
unfoldable pub with_file_line : Log → Path → ℕ → Result Log LineFault
with_file_line l path stamp = do
  _ ← require (not (is_some (file_at l.opening path))) SamePath
  Ok (record l { opening = with_new_file path (empty_file stamp) l.opening })

-- a log with a further name of a file: no line before puts a file at the path, and one does at the old path
unfoldable pub with_also_line : Log → Path → Path → Result Log LineFault
with_also_line l path old = do
  _ ← require (not (is_some (file_at l.opening path))) SamePath
  _ ← require (is_some (file_at l.opening old)) NoSuchPath
  Ok (record l { opening = with_path path l.opening (file_at l.opening old) })

-- a log with one more step
abbrev pub with_step : Log → ℕ → Step → Log
with_step l number x = record l { steps = l.steps ++ record { number = number; step = x } ∷ [] }

-- a log with one more line, of this number
abbrev pub with_line : Log → ℕ → Line → Result Log LineFault
with_line l number (line.Folder name) = with_folder_line l name
with_line l number (line.Allow c) = Ok (record l { allowed = c ∷ l.allowed })
with_line l number (line.File path stamp) = with_file_line l path stamp
with_line l number (line.Also path old) = with_also_line l path old
with_line l number (line.Step step) = Ok (with_step l number step)

-- the steps of the log have begun
abbrev pub has_begun : Log → Bool
has_begun l = nat_lt 0 (length l.steps)

-- a log with the text of one more line
unfoldable pub with_text : Log → ℕ → List ℕ → Result Log LineFault
with_text l number text =
    if is_passed_over text then Ok l else (line_of l.folders (has_begun l) text >>= (λ line. with_line l number line))

abbrev pub at_line : ℕ → Result Log LineFault → Result Log LogFault
at_line number (Ok l) = Ok l
at_line number (Err fault) = Err (record { line = number; fault = fault })

-- a log with the lines from a number on, or the first of them that is wrong
unfoldable pub with_lines : Log → ℕ → List (List ℕ) → Result Log LogFault
with_lines l number [] = Ok l
with_lines l number (text ∷ texts) = at_line number (with_text l number text) >>= (λ l. with_lines l (suc number) texts)

-- the lines of a log: the first says that it is one
abbrev pub log_by : List (List ℕ) → Result Log LogFault
log_by [] = Err (record { line = 1; fault = NoLog })
log_by (head ∷ texts) =
    if bytes_eq head (codes "maildir_log 1") then with_lines empty_log 2 texts else Err (record { line = 1; fault = NoLog })

-- The log that a text is, or its first wrong line.
unfoldable pub log_of : List ℕ → Result Log LogFault
log_of text = log_by (lines_of text)
