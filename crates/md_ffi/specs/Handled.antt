-- What a call by a handle does to the driven job behind it.
use Rattle.std.specs.Prelude.{ℕ, ◌≡◌, ◌⊎◌, Option, Some, None, Err}
use Rattle.md_jobs.specs.declared.step.DirReply.{DirReply}
use Rattle.md_jobs.specs.declared.step.StepOut.{StepOut}
use Rattle.md_driven.specs.Driving.{Driving, requested, TookReply}
use Rattle.md_driven.specs.Numbers.{refusal_number}
use Rattle.md_driven.specs.Shown.{step_shown}
use Rattle.md_driven.specs.declared.refusal.Refusal.{Refusal}
use Rattle.md_driven.specs.declared.refusal.Refusal.TheVariants.{BadReply}
use Rattle.md_driven.specs.declared.shown.StepShown.{StepShown}

-- refused so, with the job as it was, or done
abbrev pub Unless : Option Refusal → Driving → Driving → ℕ → Type 0 → Type 0
Unless None old new status is_done = (status ≡ 0) × is_done
Unless (Some refusal) old new status is_done = (status ≡ refusal_number refusal) × (new ≡ old)

-- the same, or memory ran out
abbrev pub Goes : Option Refusal → Driving → Driving → ℕ → Type 0 → Type 0
Goes refusal old new status is_done = Unless refusal old new status is_done ⊎ ((status ≡ 4) × (new ≡ old))

-- a reply was taken, and what came of it is shown
abbrev pub TakesShown : DirReply → Driving → Driving → StepShown → ℕ → Type 0
TakesShown r old new shown status = (out : StepOut) × (status ≡ 0) × TookReply r old new out × (shown ≡ step_shown out)

-- A number is a reply's and was taken; or it was refused, with the job and what was shown before as they were: it is no reply's, none is
-- waited for, or memory ran out.
abbrev pub TakesOr : Option DirReply → Driving → Driving → StepShown → StepShown → ℕ → Type 0
TakesOr None old new before after status = (status ≡ refusal_number BadReply) × (new ≡ old) × (after ≡ before)
TakesOr (Some r) old new before after status =
    TakesShown r old new after status
    ⊎ ((new ≡ old) × (after ≡ before)
    × ((status ≡ 4) ⊎ ((refusal : Refusal) × (requested old ≡ Err refusal) × (status ≡ refusal_number refusal))))
