-- What a call of a store leaves, from its submission to its answer.
use Rattle.std.specs.Prelude.{◌≡◌, ◌⊎◌, ℕ, Option, Some, None, Result, Ok, Err}
use Rattle.md_jobs.specs.declared.error.CoreError.{CoreError}
use Rattle.md_jobs.specs.declared.error.CoreError.TheVariants as core
use Rattle.md_jobs.specs.declared.call.Call.{Call}
use Rattle.md_jobs.specs.declared.call.Call.TheVariants.{Deliver, Copy}
use Rattle.md_core.specs.Runs.{Run, jobs_of, step_refusal, IsRefusal}
use Rattle.md_core.specs.Submitting.{checks_of_words, first_met}
use Rattle.md_jobs.specs.declared.answer.Answer.{Answer}
use Rattle.md_jobs.specs.declared.step.StepOut.{StepOut}
use Rattle.md_core.specs.Answering.{Says}
use Rattle.md_core.specs.Interleaving.{Acts}
use Rattle.md_core.specs.Machine.{job_at}
use Rattle.md_core.specs.Trace.{IsAnswered, call_at}
use Rattle.md_core.specs.Tracing.{trace_of}
use Rattle.md_core.specs.Stepping.{IsRun}
use Rattle.md_store.specs.declared.calling.CallError.{CallError}
use Rattle.md_store.specs.declared.calling.CallError.TheVariants.{Refused, NoMemory, Unanswered, Untold}
use Rattle.md_store.specs.Locks.{SubmitsSince, StepsSince, Stands}
use Rattle.md_store.specs.Ongoing.{IsSince, GoesOn}
use Rattle.md_store.specs.Pages.{Held}

-- where a call is refused whatever the store holds: by the checks of its words, and of how many folders there are
abbrev pub plain_refusal : ℕ → Call → Option CoreError
plain_refusal folders asked = first_met (checks_of_words folders asked)

-- the call makes a message of a new name: it is a delivery or a copy
abbrev pub MakesName : Call → Type 0
MakesName (Deliver folder unique body chunk) = Unit {0}
MakesName (Copy folder unique to fresh tries) = Unit {0}
MakesName asked = ⊥

-- an error of a call is this refusal, or else rests on what the store holds or on memory; only a delivery or a copy has a used name
abbrev pub IsWhy : Call → Option CoreError → CoreError → Type 0
IsWhy asked None e = (e ≡ core.TooManyJobs) ⊎ ((e ≡ core.NameUsed) × MakesName asked) ⊎ (e ≡ core.NoMemory)
IsWhy asked (Some refusal) e = e ≡ refusal

-- a step of this job was refused so in a run that goes on from the one at the opening, and from this one of the store's own
pub record RefusesSince (begun held : Run) (job : ℕ) (e : CoreError) : Type 0 where
  pub run : Run
  pub since : IsSince begun run
  pub goes : GoesOn held run
  pub is_run : IsRun run
  pub refused : IsRefusal (step_refusal (job_at (jobs_of run) job)) e

-- the call was submitted as this job of the run that is held, and the checks of its words had accepted it
pub record Accepts (begun held : Run) (folders : ℕ) (call : Call) (job : ℕ) : Type 0 where
  pub submitted : SubmitsSince begun call job
  pub checked : plain_refusal folders call ≡ None
  pub whose : call_at held.calls job ≡ Some call

-- a step of this job was refused so, as in `RefusesSince`, in a run in which it is of this call
pub record StopsCall (begun held : Run) (job : ℕ) (call : Call) (e : CoreError) : Type 0 where
  pub refused : RefusesSince begun held job e
  pub whose : call_at refused.run.calls job ≡ Some call

-- a step of this job, in a run that goes on from this one of the store's own, gave this answer; it is the job's in a later one
pub record GivesSince (begun held late : Run) (job now : ℕ) (own : Option ℕ) (a : Answer) : Type 0 where
  pub out : StepOut
  pub stepped : StepsSince begun held job now own out
  pub answer : out.answer ≡ Some a
  pub answered : IsAnswered (trace_of late) job a

-- a job of this call was answered so in a run: with success it took effect at one step, else at none, and the answer says what happened
pub record AnswersCall (run : Run) (job : ℕ) (call : Call) (a : Answer) : Type 0 where
  pub acts : Acts (trace_of run) job call a
  pub says : Says (trace_of run) job call a

-- The answer of a call is that of a step of its job, of just this call, in the run that is held, and the effect of success is held.
pub record Answers (begun : Run) (folders : ℕ) (call : Call) (now : ℕ) (own : Option ℕ) (a : Answer) (before after : Held) : Type 0 where
  pub job : ℕ
  pub accepted : Accepts begun after.run folders call job
  pub given : GivesSince begun before.run after.run job now own a
  pub answers : AnswersCall after.run job call a
  pub stands : Stands (Some a) job after.history

-- What each error of a call leaves: a refused call comes back, and the pass holds what it held; a job without memory had no answer; an
-- unanswered one had its answer where a step of it was refused; an untold one gave this answer.
abbrev pub Leaves : Run → ℕ → Call → ℕ → Option ℕ → CallError → Held → Held → Type 0
Leaves begun folders call now own (Refused r) before after =
    (r.call ≡ call) × IsWhy call (plain_refusal folders call) r.error × (after ≡ before)
Leaves begun folders call now own (NoMemory job) before after =
    Accepts begun after.run folders call job × StopsCall begun before.run job call core.NoMemory
Leaves begun folders call now own (Unanswered job) before after =
    Accepts begun after.run folders call job × StopsCall begun before.run job call core.Answered
Leaves begun folders call now own (Untold job a) before after =
    Accepts begun after.run folders call job × GivesSince begun before.run after.run job now own a × AnswersCall after.run job call a

-- the call of a job stops short so: what the error leaves of that job
abbrev pub Stops : Run → ℕ → ℕ → Option ℕ → CallError → Held → Held → Type 0
Stops begun job now own (Refused r) before after = ⊥
Stops begun job now own (NoMemory j) before after = (j ≡ job) × RefusesSince begun before.run job core.NoMemory
Stops begun job now own (Unanswered j) before after =
    (j ≡ job) × (RefusesSince begun before.run job core.Answered ⊎ RefusesSince begun before.run job core.NoJob)
Stops begun job now own (Untold j a) before after = (j ≡ job) × GivesSince begun before.run after.run job now own a

-- how a step of a job ends its call, where it does: otherwise the job was there and had no answer
abbrev pub Ends : Run → ℕ → ℕ → Option ℕ → Option (Result Answer CallError) → Held → Held → Type 0
Ends begun job now own None before after = RefusesSince begun before.run job core.NoMemory
Ends begun job now own (Some (Ok a)) before after = GivesSince begun before.run after.run job now own a × Stands (Some a) job after.history
Ends begun job now own (Some (Err e)) before after = Stops begun job now own e before after
