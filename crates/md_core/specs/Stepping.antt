-- Which runs a world may have, and what a step of it shows.
use Rattle.std.specs.Prelude.{ℕ, ◌≡◌, ◌≤◌, ◌++◌, ◌∷◌, ◌==◌, List, [], Option, Some, None, true, filter, take, slice_get, IfSome, is_some}
use Rattle.std.specs.Option.{option_to_list}
use Rattle.md_dirs.specs.State.{IsSound}
use Rattle.md_jobs.specs.declared.answer.Answer.{Answer}
use Rattle.md_jobs.specs.declared.call.Call.{Call}
use Rattle.md_jobs.specs.declared.effect.Effect.{Effect}
use Rattle.md_jobs.specs.declared.step.StepOut.{StepOut}
use Rattle.md_core.specs.Mailbox.{Mailbox}
use Rattle.md_core.specs.Alone.{alone}
use Rattle.md_core.specs.Trace.{Step, call_at}
use Rattle.md_core.specs.Machine.{Machine, Occurrence, step_out, job_at, step_of as done_of}
use Rattle.md_core.specs.Runs.{Run, first_clock, machine_at, machine_of, effects_of, step_refusal, box_in}
use Rattle.md_used.specs.Loading.{load_refusal}
use Rattle.md_core.specs.Submitting.{submit_refusal}
use Rattle.md_core.specs.Interleaving.{is_effect_at, is_success}

-- The runs of a world: sound directories at the beginning, with no fault, and with no later stamp than the clock; each call accepted by
-- the checks when it was submitted; and each event of a job that was there and had no answer.
pub record IsRun (r : Run) : Type 0 where
  pub sound : IsSound r.image
  pub loaded : load_refusal r.image ≡ None
  pub stamped : first_clock r.image ≤ r.clock
  pub accepted : (i : ℕ) (call : Call) → slice_get r.calls i ≡ Some call → submit_refusal (record r { calls = take i r.calls }) call ≡ None
  pub taken : (k : ℕ) (e : Occurrence) → slice_get r.events k ≡ Some e → step_refusal (job_at (machine_at r k).jobs e.event.job) ≡ None

-- At an effect the call answers as it would alone on the mailbox, and leaves it so. At no other step does the mailbox change.
abbrev pub AsAlone : Call → Option Effect → Mailbox → Mailbox → Type 0
AsAlone call None m m' = m' ≡ m
AsAlone call (Some effect) m m' = alone call m ≡ record { answer = effect.answer; after = m' }

-- What was done of a call simulates the one-at-a-time mailbox, between the machines before and after it: the history grows by its effect,
-- if it is one, and the mailbox is as the call alone would leave it.
pub record Simulates (call : Call) (d : Step) (m m' : Machine) : Type 0 where
  pub history : m'.effects ≡ m.effects ++ option_to_list d.effect
  pub own : IfSome d.effect (λ x. x.job ≡ d.job)
  pub is_effect : is_some d.effect ≡ is_effect_at call d.asked d.reply d.answer
  pub as_alone : AsAlone call d.effect (box_in m) (box_in m')

-- A step of a world shows what its event did, and that simulates the call of its job.
pub record ShowsStep (r r' : Run) (e : Occurrence) (out : StepOut) : Type 0 where
  pub what : Step
  pub at : done_of (machine_of r) e ≡ Some what
  pub shown : out ≡ step_out what
  pub call : Call
  pub of : call_at r.calls what.job ≡ Some call
  pub simulates : Simulates call what (machine_of r) (machine_of r')

-- the effects of a job
abbrev pub effects_by : Run → ℕ → List Effect
effects_by r job = filter (λ e. e.job == job) (effects_of r)

-- where an answer of a job says that its call took effect, the history has one effect of the job, with that answer
abbrev pub Succeeds : Run → ℕ → Option Answer → Type 0
Succeeds r job None = Unit {0}
Succeeds r job (Some a) = is_success a ≡ true → (e : Effect) × (effects_by r job ≡ e ∷ []) × (e.answer ≡ a)
