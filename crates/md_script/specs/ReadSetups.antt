-- What reading a script for what it sets up answers.
use Rattle.std.specs.Prelude.{◌≡◌, ℕ, ◌⊎◌, Bool, List, Some, None, length, Result, Ok, Err}
use Rattle.md_head.specs.Header.{lines_of}
use Rattle.md_script.specs.declared.error.PlayError.{PlayError}
use Rattle.md_script.specs.declared.setup.ReadSetup.{ReadSetup}
use Rattle.md_script.specs.Sources.{Source}
use Rattle.md_script.specs.Reading.{IsReadWhole, Unread}
use Rattle.md_script.specs.Setups.{setting_of, IsSetup}

-- No line of the script is refused, and this is what it sets up, with the number of its lines.
pub record SetsUp (with_jobs : Bool) (script : List ℕ) (r : ReadSetup) : Type 0 where
  pub taken : (setting_of with_jobs script).refusal ≡ None
  pub setup : IsSetup (setting_of with_jobs script).session r.setup
  pub lines : r.lines ≡ length (lines_of script)

-- A whole script was read, and this is what it sets up.
pub record IsImageRead (with_jobs : Bool) (old new : Source) (r : ReadSetup) : Type 0 where
  pub script : List ℕ
  pub whole : IsReadWhole old new script
  pub sets_up : SetsUp with_jobs script r

-- A whole script was read, and a line of it is refused so.
pub record IsImageRefused (with_jobs : Bool) (old new : Source) (e : PlayError) : Type 0 where
  pub script : List ℕ
  pub whole : IsReadWhole old new script
  pub is : (setting_of with_jobs script).refusal ≡ Some e

-- What a script sets up, or its refusal; or why it was not read whole. Lines are numbered from 1, so that the line 0 is none.
abbrev pub ReadsImage : Bool → Source → Source → Result ReadSetup PlayError → Type 0
ReadsImage with_jobs old new (Ok r) = IsImageRead with_jobs old new r
ReadsImage with_jobs old new (Err e) = IsImageRefused with_jobs old new e ⊎ ((e.line ≡ 0) × Unread old new e.kind)
