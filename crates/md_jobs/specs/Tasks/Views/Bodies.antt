-- What the code of a delivery has of its body.
use Rattle.std.specs.Prelude.{ℕ, ◌≡◌, ◌<◌, List, length}
use Rattle.md_jobs.specs.Tasks.Delivery.{Stage, Start, Writing, Linked, Undo}

-- at this stage these bytes are the whole body, if a piece of it is still to be written
abbrev pub IsAtHand : Stage → List ℕ → List ℕ → Type 0
IsAtHand Start whole body = body ≡ whole
IsAtHand (Writing start k) whole body = k < length whole → body ≡ whole
IsAtHand Linked whole body = Unit {0}
IsAtHand (Undo refusal) whole body = Unit {0}

-- the size of the whole body, and all of it while a piece of it is still to be written
pub record HasBody (stage : Stage) (whole body : List ℕ) (size : ℕ) : Type 0 where
  pub sized : size ≡ length whole
  pub at_hand : IsAtHand stage whole body
