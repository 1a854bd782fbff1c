-- What a call by a handle does to the world behind it.
use Rattle.std.specs.Prelude.{◌≡◌, ◌⊎◌, ℕ, ◌+◌, ◌&&◌, List, length, nat_le, nat_lt, Bool, true, false, Option, Some, None, Result, Ok, Err}
use Rattle.md_jobs.specs.declared.error.CoreError.{CoreError}
use Rattle.md_jobs.specs.declared.error.CoreError.TheVariants.{NoJob}
use Rattle.md_jobs.specs.declared.answer.Answer.{Answer}
use Rattle.md_jobs.specs.declared.step.StepOut.{StepOut}
use Rattle.md_jobs.specs.Asked.{is_fault}
use Rattle.md_core.specs.Machine.{Occurrence}
use Rattle.md_core.specs.Runs.{Run, and_call, and_event}
use Rattle.md_core.specs.Settling.{settled}
use Rattle.md_core.specs.Stepping.{ShowsStep}
use Rattle.md_core.specs.Submitting.{submit_refusal}
use Rattle.md_script.specs.Kinds.{core_kind}
use Rattle.md_script.specs.declared.error.PlayKind.TheVariants.{NoMemory}
use Rattle.md_text.specs.Bind.{◌>>=◌}
use Rattle.md_ffi.specs.Asking.{call_at, unless}
use Rattle.md_driven.specs.Numbers.{core_number, refusal_number}
use Rattle.md_driven.specs.Shown.{answer_shown, step_shown}
use Rattle.md_driven.specs.declared.shown.AnswerShown.{AnswerShown}
use Rattle.md_driven.specs.declared.shown.StepShown.{StepShown}
use Rattle.md_ffi.specs.declared.asked.Asked.{Asked}
use Rattle.md_ffi.specs.declared.held.Held.{Held}
use Rattle.md_driven.specs.declared.refusal.Refusal.{Refusal}
use Rattle.md_driven.specs.declared.refusal.Refusal.TheVariants.{Kind, Closed, Unanswered}

-- a closed handle stays so and refuses, and this is kept; an open one stays open, and this holds of what it held before and holds after
abbrev pub OnOpen : {X : Type 0} → Option X → Option X → ℕ → Type 0 → (X → X → Type 0) → Type 0
OnOpen None after status kept holds = (after ≡ None) × (status ≡ refusal_number Closed) × kept
OnOpen (Some before) None status kept holds = ⊥
OnOpen (Some before) (Some after) status kept holds = holds before after

-- the same of a world, which goes from one run to another
abbrev pub OnHeld : Option Held → Option Held → ℕ → Type 0 → (Run → Run → Type 0) → Type 0
OnHeld before after status kept holds = OnOpen before after status kept (λ old new. holds old.world new.world)

-- the run with one more call, and the number of its job
unfoldable pub submitted : Run → Asked → List ℕ → List ℕ → List ℕ → Result (Run × ℕ) Refusal
submitted run asked unique first second =
    call_at asked unique first second >>= (λ call. unless core_kind (submit_refusal run call) (and_call run call, length run.calls + 1))

-- A function did what is said, or refused with the world as it was: for what is said, or out of memory.
abbrev pub GivesIn : {X : Type 0} → Result (Run × X) Refusal → Run → Run → Result X Refusal → Type 0
GivesIn said old new (Ok x) = said ≡ Ok (new, x)
GivesIn said old new (Err e) = (new ≡ old) × ((e ≡ Kind NoMemory) ⊎ (said ≡ Err e))

-- what a call by C came to: done, with this of what it gave; or refused with the world and this as they were
abbrev pub Ends : {X : Type 0} → Result (Run × X) Refusal → Run → Run → ℕ → (X → Type 0) → Type 0 → Type 0
Ends (Ok done) old new status gave kept = ((new ≡ done.0) × (status ≡ 0) × gave done.1) ⊎ ((new ≡ old) × (status ≡ 4) × kept)
Ends (Err refusal) old new status gave kept = (new ≡ old) × ((status ≡ refusal_number refusal) ⊎ (status ≡ 4)) × kept

-- the number of a free: of a closed handle it is refused
abbrev pub free_number : {X : Type 0} → Option X → ℕ
free_number None = refusal_number Closed
free_number (Some held) = 0

-- whether a job of that number is there
abbrev pub is_job : Run → ℕ → Bool
is_job run job = nat_lt 0 job && nat_le job (length run.calls)

-- the answer of a job is shown where the job is there, and else nothing
abbrev pub Answers : Bool → Option Answer → AnswerShown → AnswerShown → ℕ → Type 0
Answers true answer before after status = (status ≡ 0) × (after ≡ answer_shown answer)
Answers false answer before after status = (status ≡ core_number NoJob) × (after ≡ before)

-- the number of a refused step: out of memory where nothing else is against it
abbrev pub refused_step : Option CoreError → ℕ
refused_step None = 4
refused_step (Some error) = core_number error

-- the run goes on by one event, a fault where the reply is one, and what is shown is what that event did
abbrev pub Takes : Run → Run → (Bool → Occurrence) → StepShown → Type 0
Takes old new event shown =
    (out : StepOut) × (shown ≡ step_shown out) × (new ≡ and_event old (event (is_fault out.reply)))
    × ShowsStep old new (event (is_fault out.reply)) out

-- A step was taken, of this event, and is shown; or it was refused, with the world and what was shown before as they were.
unfoldable pub Steps : Run → Run → (Bool → Occurrence) → Option CoreError → StepShown → StepShown → ℕ → Type 0
Steps old new event refusal before after status =
    ((status ≡ 0) × (refusal ≡ None) × Takes old new event after)
    ⊎ ((status ≡ refused_step refusal) × (new ≡ old) × (after ≡ before))

-- A world settles if each job has its answer, and begins again. Else it is as it was, and the first job that has no answer is named.
unfoldable pub Settles : Run → Run → Option ℕ → ℕ → ℕ → Type 0
Settles old new None status job = (new ≡ settled old) × (status ≡ 0) × (job ≡ 0)
Settles old new (Some first) status job = (new ≡ old) × (status ≡ refusal_number Unanswered) × (job ≡ first)
