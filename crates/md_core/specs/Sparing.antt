-- The cleaner's theorem: no delivery is answered that a clean took its file, and a clean takes it late.
use Rattle.std.specs.Prelude.{ℕ, ◌≡◌, ◌+◌, ◌≤◌, List, Some}
use Rattle.md_dirs.specs.Path.{path_of as path}
use Rattle.md_dirs.specs.declared.paths.Path.{Path}
use Rattle.md_dirs.specs.declared.paths.Place.TheVariants.{Tmp}
use Rattle.md_jobs.specs.declared.answer.Answer.TheVariants.{TmpGone}
use Rattle.md_jobs.specs.declared.call.Call.TheVariants.{Deliver}
use Rattle.md_core.specs.Trace.{Trace, Step, step_at, call_at, IsAnswered}
use Rattle.md_core.specs.Answering.{Begins, IsCleanedAway}

-- at every step the clock of the job and that of the store are no more than so many seconds apart
abbrev pub AreApart : Trace → ℕ → Type 0
AreApart t seconds = (k : ℕ) (x : Step) → step_at t k ≡ Some x → (x.at.own ≤ x.at.clock + seconds) × (x.at.clock ≤ x.at.own + seconds)

-- A clean took the file of a delivery in tmp away: the delivery has begun, and by the store's clock this was 36 hours, less some seconds,
-- after its first step.
pub record IsLate (t : Trace) (job seconds k : ℕ) (p : Path) (cleaned : IsCleanedAway t k p) : Type 0 where
  pub first : Begins t job
  pub late : first.begun.step.at.clock + 129600 ≤ cleaned.step.at.clock + seconds

-- Where the clocks are no more than so many seconds apart, no delivery is answered that its file in tmp was gone; and a clean takes such a
-- file away late.
pub record Spares (t : Trace) (seconds : ℕ) : Type 0 where
  pub never_gone : (job : ℕ) → IsAnswered t job TmpGone → ⊥
  pub late : (k job folder : ℕ) (u body : List ℕ) (chunk : ℕ) → call_at t.calls job ≡ Some (Deliver folder u body chunk)
      → (cleaned : IsCleanedAway t k (path folder Tmp u)) → IsLate t job seconds k (path folder Tmp u) cleaned

-- The cleaner's theorem, with one clock (0 seconds apart) and with clocks up to 4 hours apart.
abbrev pub CleanersSpare : Trace → Type 0
CleanersSpare t = (seconds : ℕ) → seconds ≤ 14400 → AreApart t seconds → Spares t seconds
