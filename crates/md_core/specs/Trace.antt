-- A trace: what an observer of the directories writes down, step by step. It knows calls, directory calls, replies, moments, answers and
-- effects, and nothing of how a job decides what to do next.
use Rattle.std.specs.Prelude.{ℕ, zero, suc, ◌≡◌, ◌<◌, ◌≤◌, ◌==◌, List, [], ◌∷◌, Option, Some, None, ◌⊎◌, take, slice_get, count_by}
use Rattle.std.specs.List.{filter_map}
use Rattle.std.specs.Option.{option_and_then}
use Rattle.md_dirs.specs.State.{State, IsSound, file_at, file_by}
use Rattle.md_dirs.specs.declared.paths.File.{File}
use Rattle.md_dirs.specs.declared.paths.Path.{Path}
use Rattle.md_jobs.specs.declared.answer.Answer.{Answer}
use Rattle.md_jobs.specs.declared.call.Call.{Call}
use Rattle.md_jobs.specs.declared.effect.Effect.{Effect}
use Rattle.md_jobs.specs.declared.step.DirReply.{DirReply}
use Rattle.md_jobs.specs.declared.step.DirReply.TheVariants.{Fault}
use Rattle.md_jobs.specs.declared.step.Moment.{Moment}
use Rattle.md_jobs.specs.Asked.{Asked, ask_of, state_by, reply_by}
use Rattle.md_core.specs.Mailbox.{Mailbox, mailbox_of, HasOnePath}
use Rattle.md_core.specs.Accepting.{IsAccepted}

-- One step: the job that took it, its one directory call, the reply, the moment, the job's answer where it has one now, and its effect
-- where this step is one.
pub record Step : Type 0 where
  pub job : ℕ
  pub asked : Asked
  pub reply : DirReply
  pub at : Moment
  pub answer : Option Answer
  pub effect : Option Effect

-- The directories at the beginning, the calls of the jobs, and the steps in their order. Jobs are numbered from 1, as their calls.
pub record Trace : Type 0 where
  pub image : State
  pub calls : List Call
  pub steps : List Step

-- calls are numbered as their jobs, from 1
abbrev pub call_at : List Call → ℕ → Option Call
call_at calls zero = None
call_at calls (suc i) = slice_get calls i

-- step k, counted from 0
abbrev pub step_at : Trace → ℕ → Option Step
step_at t k = slice_get t.steps k

-- the directories after some steps: each directory call that was done left what it leaves
unfoldable pub state_after : State → List Step → State
state_after s [] = s
state_after s (x ∷ steps) = state_after (state_by (ask_of x.asked x.at.clock) s x.reply) steps

-- the directories at moment k, before step k
abbrev pub state : Trace → ℕ → State
state t k = state_after t.image (take k t.steps)

-- the mailbox at moment k
abbrev pub box : Trace → ℕ → Mailbox
box t k = mailbox_of (state t k)

-- the effects before moment k
abbrev pub effects : Trace → ℕ → List Effect
effects t k = filter_map (λ x. x.effect) (take k t.steps)

-- the file at a path, with its bytes and its stamp
abbrev pub file_in : State → Path → Option File
file_in s p = option_and_then (file_by s.files) (file_at s p)

-- step k is one of the job
pub record IsStepOf (t : Trace) (job k : ℕ) : Type 0 where
  pub step : Step
  pub at : step_at t k ≡ Some step
  pub own : step.job ≡ job

-- a step of the job gave it this answer
pub record IsAnswered (t : Trace) (job : ℕ) (a : Answer) : Type 0 where
  pub k : ℕ
  pub last : IsStepOf t job k
  pub answer : last.step.answer ≡ Some a

-- how many steps a job has taken
abbrev pub steps_of : Trace → ℕ → ℕ
steps_of t job = count_by (λ x. x.job == job) t.steps

-- Which lists of steps are traces: the directories at the beginning are sound, and each message of them has one path; each call was
-- accepted after those before it; each reply is what the directory call answers there, or Fault; the store's clock never goes back; and a
-- job with an answer takes no step.
pub record IsTrace (t : Trace) : Type 0 where
  pub sound : IsSound t.image
  pub one_path : HasOnePath t.image
  pub accepted : (i : ℕ) (call : Call) → slice_get t.calls i ≡ Some call → IsAccepted t.image (take i t.calls) call
  pub replied : (k : ℕ) (x : Step) → step_at t k ≡ Some x
      → (x.reply ≡ reply_by ((ask_of x.asked x.at.clock).refusal (state t k))) ⊎ (x.reply ≡ Fault)
  pub forward : (i k : ℕ) (x y : Step) → step_at t i ≡ Some x → step_at t k ≡ Some y → i ≤ k → x.at.clock ≤ y.at.clock
  pub ended : (i k job : ℕ) (a : Answer) → (x : IsStepOf t job i) → x.step.answer ≡ Some a → i < k → IsStepOf t job k → ⊥
