-- What a whole play answers, and what it leaves in its source and its sink.
use Rattle.std.specs.Prelude.{◌≡◌, ℕ, ◌+◌, ◌⊎◌, List, Option, Some, None, Result, Ok, Err}
use Rattle.md_script.specs.declared.error.PlayKind.{PlayKind}
use Rattle.md_script.specs.declared.error.PlayKind.TheVariants.{WriteFault, NoMemory}
use Rattle.md_script.specs.declared.error.PlayError.{PlayError}
use Rattle.md_script.specs.declared.run.Printed.{Printed}
use Rattle.md_script.specs.Sources.{Source}
use Rattle.md_script.specs.Sinks.{Sink, Took, Untouched, Refused}
use Rattle.md_script.specs.Reading.{IsReadWhole, Unread}
use Rattle.md_script.specs.Printed.{Prints}
use Rattle.md_script.specs.Sessions.{transcript}

-- A whole script was read, what it prints was written, and this is its refusal.
pub record Ran (old new : Source) (before after : Sink) (refusal : Option PlayError) : Type 0 where
  pub script : List ℕ
  pub whole : IsReadWhole old new script
  pub written : Took before after (transcript script).text
  pub refused : (transcript script).refusal ≡ refusal

-- A whole script was read, and this is what it prints, and its refusal.
pub record IsPlayed (old new : Source) (p : Printed) : Type 0 where
  pub script : List ℕ
  pub whole : IsReadWhole old new script
  pub prints : Prints (transcript script) p

-- A whole script was read, and then a write failed.
pub record Unwritten (old new : Source) (before after : Sink) : Type 0 where
  pub script : List ℕ
  pub whole : IsReadWhole old new script
  pub failed : after.failures ≡ before.failures + 1

-- No line is to blame: a write failed; or the script was not read whole, or memory was refused, and nothing was written.
abbrev pub Stops : Source → Source → Sink → Sink → PlayKind → Type 0
Stops old new before after WriteFault = Unwritten old new before after
Stops old new before after kind = Untouched before after × Unread old new kind

-- The answer of a play. Lines are numbered from 1, so that the line 0 is none.
abbrev pub Plays : Source → Source → Sink → Sink → Result (Unit {0}) PlayError → Type 0
Plays old new before after (Ok done) = Ran old new before after None
Plays old new before after (Err e) = Ran old new before after (Some e) ⊎ ((e.line ≡ 0) × Stops old new before after e.kind)

-- A text was written, or why it was not.
abbrev pub Writes : Sink → Sink → List ℕ → Result (Unit {0}) PlayKind → Type 0
Writes before after text (Ok done) = Took before after text
Writes before after text (Err WriteFault) = after.failures ≡ before.failures + 1
Writes before after text (Err NoMemory) = Refused before after
Writes before after text (Err other) = ⊥
