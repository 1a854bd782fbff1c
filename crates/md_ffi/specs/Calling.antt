-- What a call by C comes to, from its submit to its answer.
use Rattle.std.specs.Prelude.{◌≡◌, ◌⊎◌, ℕ, List, Option, Some, None, Result, Ok, Err}
use Rattle.md_jobs.specs.declared.answer.Answer.{Answer}
use Rattle.md_jobs.specs.declared.call.Call.{Call}
use Rattle.md_core.specs.Calling.{next_job, StepsAlone, OthersStay, HasAnswer, IsUnanswered, AnswersAlone, AnswersAsAlone}
use Rattle.md_core.specs.Mailbox.{mailbox_of}
use Rattle.md_core.specs.Runs.{Run, dirs_of}
use Rattle.md_core.specs.Stepping.{Succeeds}
use Rattle.md_core.specs.Submitting.{submit_refusal}
use Rattle.md_script.specs.declared.error.PlayKind.TheVariants.{NoMemory}
use Rattle.md_ffi.specs.Asking.{call_at}
use Rattle.md_ffi.specs.Doing.{submitted}
use Rattle.md_driven.specs.Numbers.{refusal_number}
use Rattle.md_driven.specs.Shown.{answer_shown}
use Rattle.md_ffi.specs.declared.asked.Asked.{Asked}
use Rattle.md_ffi.specs.declared.jobs.NoAnswer.{NoAnswer}
use Rattle.md_ffi.specs.declared.jobs.NoAnswer.TheVariants.{Refused, Stopped}
use Rattle.md_driven.specs.declared.refusal.Refusal.TheVariants.{Kind}
use Rattle.md_driven.specs.declared.shown.AnswerShown.{AnswerShown}

-- A call was made, and this is its answer. The run goes on by the call and by steps of its job, all at one moment, and by nothing else; a
-- success has its one effect; and the call did what it does alone, or nothing.
pub record IsAnswered (call : Call) (now : ℕ) (own : Option ℕ) (old new : Run) (a : Answer) : Type 0 where
  pub taken : submit_refusal old call ≡ None
  pub goes : StepsAlone call now own old new
  pub others : OthersStay (next_job old) old new
  pub answered : HasAnswer new (next_job old) a
  pub success : Succeeds new (next_job old) (Some a)
  pub alone : AnswersAlone call (mailbox_of (dirs_of old)) (mailbox_of (dirs_of new)) a
  pub exact : AnswersAsAlone call (mailbox_of (dirs_of old)) (mailbox_of (dirs_of new)) a

-- Memory ran out amid the steps of a call's job, which is there, has no answer, and may be stepped on.
pub record IsStopped (call : Call) (now : ℕ) (own : Option ℕ) (old new : Run) : Type 0 where
  pub taken : submit_refusal old call ≡ None
  pub goes : StepsAlone call now own old new
  pub others : OthersStay (next_job old) old new
  pub unanswered : IsUnanswered new (next_job old)

-- What the call that is asked came to. It is answered; or refused, with the world as it was; or memory ran out amid its job's steps.
abbrev pub Comes : Asked → List ℕ → List ℕ → List ℕ → ℕ → Option ℕ → Run → Run → Result Answer NoAnswer → Type 0
Comes asked unique first second now own old new (Ok a) =
    (call : Call) × (call_at asked unique first second ≡ Ok call) × IsAnswered call now own old new a
Comes asked unique first second now own old new (Err (Stopped job)) =
    (call : Call) × (call_at asked unique first second ≡ Ok call) × IsStopped call now own old new × (job ≡ next_job old)
Comes asked unique first second now own old new (Err (Refused e)) =
    (new ≡ old) × ((e ≡ Kind NoMemory) ⊎ (submitted old asked unique first second ≡ Err e))

-- the number of why a call has no answer
abbrev pub no_answer_number : NoAnswer → ℕ
no_answer_number (Refused refusal) = refusal_number refusal
no_answer_number (Stopped job) = 4

-- what is told of it: the status, the job's number, 0 where there is no job, and its answer
abbrev pub Tells : Run → Result Answer NoAnswer → ℕ → ℕ → AnswerShown → Type 0
Tells old (Ok a) status job shown = (status ≡ 0) × (job ≡ next_job old) × (shown ≡ answer_shown (Some a))
Tells old (Err (Refused refusal)) status job shown = (status ≡ refusal_number refusal) × (job ≡ 0) × (shown ≡ answer_shown None)
Tells old (Err (Stopped number)) status job shown = (status ≡ 4) × (job ≡ number) × (shown ≡ answer_shown None)

-- a call by C came to this, and tells it
pub record Calls (asked : Asked) (unique first second : List ℕ) (now : ℕ) (own : Option ℕ) (old new : Run)
    (status job : ℕ) (shown : AnswerShown) : Type 0 where
  pub outcome : Result Answer NoAnswer
  pub comes : Comes asked unique first second now own old new outcome
  pub tells : Tells old outcome status job shown
