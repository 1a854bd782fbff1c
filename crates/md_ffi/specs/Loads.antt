-- What `folder` and `file` lines load, and what a load gives.
use Rattle.std.specs.Prelude.{◌≡◌, ◌⊎◌, ℕ, false, List, length, Option, Some, None, Result, Ok, Err}
use Rattle.md_core.specs.Runs.{Run}
use Rattle.md_script.specs.declared.error.PlayError.{PlayError}
use Rattle.md_script.specs.declared.error.PlayKind.TheVariants.{NoMemory}
use Rattle.md_script.specs.Indexing.{at_line}
use Rattle.md_script.specs.Kinds.{at_no_line}
use Rattle.md_script.specs.Sessions.{run_over}
use Rattle.md_script.specs.Setups.{Setting, setting_of}
use Rattle.md_driven.specs.Numbers.{kind_number}
use Rattle.md_ffi.specs.declared.held.Held.{Held}

-- The store over the folders and files of a setup, where no line of it was refused. One that can't be opened is refused at no line.
abbrev pub over : Option PlayError → Setting → Result Run PlayError
over (Some refusal) setting = Err refusal
over None setting = at_line 0 (run_over (length setting.folders) setting.files)

-- the store that lines load, or the refusal
unfoldable pub loaded : List ℕ → Result Run PlayError
loaded lines = over (setting_of false lines).refusal (setting_of false lines).session

-- a load came to this: the world that is held, the status and the refused line
abbrev pub Comes : Result Run PlayError → Option Held → ℕ → ℕ → Type 0
Comes (Ok run) held status line = (held ≡ Some (record { world = run })) × (status ≡ 0) × (line ≡ 0)
Comes (Err refusal) held status line = (held ≡ None) × (status ≡ kind_number refusal.kind) × (line ≡ refusal.line)

-- a load gives the store of its lines, or says why not; out of memory may come in place of either
abbrev pub GivesWorld : List ℕ → Option Held → ℕ → ℕ → Type 0
GivesWorld lines held status line = Comes (loaded lines) held status line ⊎ Comes (Err (at_no_line NoMemory)) held status line
