-- A script that is run while it is read.
use Rattle.std.specs.Prelude.{◌≡◌, ℕ, ◌+◌, ◌≤◌, List, ◌++◌, length, vec_len, take, Bool, true, false, None, Result, Ok, Err}
use Rattle.std.specs.Io.KnownBytes.{Consumes}
use Rattle.md_head.specs.Header.{lines_of}
use Rattle.md_script.specs.declared.error.PlayKind.{PlayKind}
use Rattle.md_script.specs.declared.incoming.Incoming.{Incoming}
use Rattle.md_script.specs.declared.run.Progress.{Progress}
use Rattle.md_script.specs.Sources.{Source}
use Rattle.md_script.specs.Reading.{IsReadWhole, Sound, Endless, Unread, most_bytes}
use Rattle.md_script.specs.Transcript.{transcript_of}
use Rattle.md_script.specs.Printed.{Tells}
use Rattle.md_script.specs.Progress.{IsFresh, outcome, usable_of}

-- the bytes of the line that hasn't ended
abbrev pub line_so_far : Incoming → List ℕ
line_so_far i = take i.filled i.room.items

-- nothing has come
pub record IsEmpty (i : Incoming) : Type 0 where
  pub filled : i.filled ≡ 0
  pub given : i.given ≡ 0
  pub progress : IsFresh i.progress

-- what has come is within a script's length
pub record KeepsLimits (i : Incoming) : Type 0 where
  pub there : i.filled ≤ vec_len i.room
  pub counted : i.progress.passed + i.filled ≤ i.given
  pub within : i.given ≤ most_bytes

-- Bytes were taken in: those in front were run, or passed over after a refusal, and the others are kept.
pub record TakesIn {S : Type 0} (step : S → List ℕ → Result (S × List ℕ) PlayKind)
    (before : Progress) (s : S) (bytes : List ℕ) (after : Incoming) (t : S) : Type 0 where
  pub front : List ℕ
  pub parts : bytes ≡ front ++ line_so_far after
  pub there : after.filled ≤ vec_len after.room
  pub passed : after.progress.passed + after.filled ≤ before.passed + length bytes
  pub same : (more : List ℕ) → outcome step after.progress t (lines_of more) ≡ outcome step before s (lines_of (front ++ more))

-- All that the source gave was run, but for the line that hasn't ended.
pub record Underway {S : Type 0} (step : S → List ℕ → Result (S × List ℕ) PlayKind)
    (s : S) (old now : Source) (i : Incoming) (t : S) : Type 0 where
  pub front : List ℕ
  pub given : Consumes old.remaining now.remaining (front ++ line_so_far i)
  pub counted : length (front ++ line_so_far i) ≡ i.given
  pub sound : Sound old now
  pub endless : Endless old now
  pub same : (more : List ℕ) → outcome step i.progress t (lines_of more) ≡ usable_of step s (front ++ more)

-- A whole script was read, and this was printed and refused of it; each of its lines was passed, unless one was refused.
pub record RanWhole {S : Type 0} (step : S → List ℕ → Result (S × List ℕ) PlayKind)
    (s : S) (old new : Source) (p : Progress) (t : S) : Type 0 where
  pub script : List ℕ
  pub whole : IsReadWhole old new script
  pub tells : Tells (transcript_of step s script) p.printed t
  pub lines : p.printed.refusal ≡ None → p.passed ≡ length (lines_of script)

-- The script goes on after one read more.
pub record IsGoingOn {S : Type 0} (step : S → List ℕ → Result (S × List ℕ) PlayKind)
    (s : S) (old before now : Source) (i : Incoming) (t : S) : Type 0 where
  pub underway : Underway step s old now i t
  pub counted : now.reads ≡ before.reads + 1

-- What one read comes to: the script's end, or not yet, or why it is not read whole.
abbrev pub Reaches : {S : Type 0} → (S → List ℕ → Result (S × List ℕ) PlayKind)
    → S → Source → Source → Source → Incoming → S → Result Bool PlayKind → Type 0
Reaches step s old before now i t (Ok true) = RanWhole step s old now i.progress t
Reaches step s old before now i t (Ok false) = IsGoingOn step s old before now i t
Reaches step s old before now i t (Err kind) = Unread old now kind

-- a script was read whole and run, or why it was not read whole
abbrev pub RunsSource : {S : Type 0} → (S → List ℕ → Result (S × List ℕ) PlayKind)
    → S → Source → Source → S → Result Progress PlayKind → Type 0
RunsSource step s old new t (Ok p) = RanWhole step s old new p t
RunsSource step s old new t (Err kind) = Unread old new kind
