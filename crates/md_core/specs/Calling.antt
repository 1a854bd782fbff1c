-- A call from its submit to its answer, at one moment, with no step of another job between.
use Rattle.std.specs.Prelude.{ℕ, ◌≡◌, ◌≢◌, ◌+◌, List, Option, Some, None, Result, Ok, Err, true, false, length, slice_get}
use Rattle.md_jobs.specs.declared.answer.Answer.{Answer}
use Rattle.md_jobs.specs.declared.answer.Answer.TheVariants as answer
use Rattle.md_jobs.specs.declared.call.Call.{Call}
use Rattle.md_jobs.specs.declared.step.Event.{Event}
use Rattle.md_core.specs.declared.world.call.CallError.{CallError}
use Rattle.md_core.specs.declared.world.call.CallError.TheVariants.{Refused, NoMemory}
use Rattle.md_core.specs.declared.world.submit.SubmitRefused.{SubmitRefused}
use Rattle.md_core.specs.Mailbox.{Mailbox}
use Rattle.md_core.specs.Alone.{alone}
use Rattle.md_core.specs.Machine.{Occurrence, job_at}
use Rattle.md_core.specs.Runs.{Run, jobs_of, and_events, and_call, answer_of, step_refusal}
use Rattle.md_core.specs.Interleaving.{is_success}

-- the number that the next call's job gets
abbrev pub next_job : Run → ℕ
next_job r = length r.calls + 1

-- A run goes on by steps of one job at one moment, each faulted or not, and by nothing else.
pub record GoesOnBy (event : Event) (r r' : Run) : Type 0 where
  pub events : List Occurrence
  pub each : (k : ℕ) (e : Occurrence) → slice_get events k ≡ Some e → e.event ≡ event
  pub goes : r' ≡ and_events r events

-- the call is submitted, and each event since is a step of its job at this moment
abbrev pub StepsAlone : Call → ℕ → Option ℕ → Run → Run → Type 0
StepsAlone call now own r r' = GoesOnBy (record { job = next_job r; now = now; own = own }) (and_call r call) r'

-- all jobs but one are as far as they were
abbrev pub OthersStay : ℕ → Run → Run → Type 0
OthersStay job r r' = (n : ℕ) → n ≢ job → job_at (jobs_of r') n ≡ job_at (jobs_of r) n

-- a job has this answer
abbrev pub HasAnswer : Run → ℕ → Answer → Type 0
HasAnswer r job a = answer_of (job_at (jobs_of r) job) ≡ Some a

-- a job is there and has no answer: its next step is not refused
pub record IsUnanswered (r : Run) (job : ℕ) : Type 0 where
  pub unanswered : answer_of (job_at (jobs_of r) job) ≡ None
  pub goes_on : step_refusal (job_at (jobs_of r) job) ≡ None

-- A call that answers with success answers as it does alone on the mailbox, and leaves it so.
-- With any other answer the mailbox is as it was.
pub record AnswersAlone (call : Call) (m m' : Mailbox) (a : Answer) : Type 0 where
  pub done : is_success a ≡ true → alone call m ≡ record { answer = a; after = m' }
  pub undone : is_success a ≡ false → m' ≡ m

-- A call answers as it does alone on the mailbox, and leaves it so. But where a directory call of it faulted it may have left the mailbox
-- as it was; and a clean does leave it so, since the mailbox knows nothing of the files that it counts.
abbrev pub AnswersAsAlone : Call → Mailbox → Mailbox → Answer → Type 0
AnswersAsAlone call m m' answer.Fault = m' ≡ m
AnswersAsAlone call m m' (answer.Cleaned n) = m' ≡ m
AnswersAsAlone call m m' a = alone call m ≡ record { answer = a; after = m' }

-- what is so of a call that was refused when it was submitted
abbrev pub IfRefused : Result Answer CallError → (SubmitRefused → Type 0) → Type 0
IfRefused (Ok a) P = Unit {0}
IfRefused (Err (Refused r)) P = P r
IfRefused (Err (NoMemory job)) P = Unit {0}

-- what is so of a call that was submitted, and has its answer or ran out of memory amid its steps
abbrev pub IfSubmitted : Result Answer CallError → Type 0 → Type 0
IfSubmitted (Ok a) P = P
IfSubmitted (Err (Refused r)) P = Unit {0}
IfSubmitted (Err (NoMemory job)) P = P

-- what is so of the job of a call that ran out of memory amid its steps
abbrev pub IfStopped : Result Answer CallError → (ℕ → Type 0) → Type 0
IfStopped (Ok a) P = Unit {0}
IfStopped (Err (Refused r)) P = Unit {0}
IfStopped (Err (NoMemory job)) P = P job
