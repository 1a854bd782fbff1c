-- The trace of a run: what its events did, one after another. Here alone the machines are used.
use Rattle.std.specs.Prelude.{ℕ, zero, suc, ◌≡◌, ◌≤◌, ◌++◌, ◌∷◌, [], List, Some, None, max, length, slice_get, is_some, unwrap_or}
use Rattle.std.specs.Option.{option_to_list, option_map_or}
use Rattle.md_jobs.specs.declared.answer.Answer.{Answer}
use Rattle.md_jobs.specs.declared.step.Event.{Event}
use Rattle.md_jobs.specs.declared.step.StepOut.{StepOut}
use Rattle.md_jobs.specs.Asked.{shown_call}
use Rattle.md_core.specs.Machine.{Machine, Occurrence, step_of, after_event, job_at}
use Rattle.md_core.specs.Runs.{Run, beginning, dirs_of, jobs_of, effects_of, log_of, answer_of}
use Rattle.md_core.specs.Trace.{Step, Trace, IsAnswered, step_at, state, effects}

-- what events did, one after another, from a machine
unfoldable pub deeds_from : Machine → List Occurrence → List Step
deeds_from m [] = []
deeds_from m (e ∷ es) = option_to_list (step_of m e) ++ deeds_from (after_event m e) es

-- the trace of a run
abbrev pub trace_of : Run → Trace
trace_of r = record { image = r.image; calls = r.calls; steps = deeds_from (beginning r.image r.clock r.calls) r.events }

-- no event of a run has a moment of its own: all jobs go by the clock of the store
abbrev pub HasOneClock : Run → Type 0
HasOneClock r = (k : ℕ) (e : Occurrence) → slice_get r.events k ≡ Some e → e.event.own ≡ None

-- a step shows its directory call, the reply, its answer and whether it is an effect
pub record IsShownBy (step : Step) (out : StepOut) : Type 0 where
  pub call : out.call ≡ shown_call step.asked
  pub reply : out.reply ≡ step.reply
  pub answer : out.answer ≡ step.answer
  pub effect : out.effect ≡ is_some step.effect

-- the trace has one step more, a step of the job, and that is what was shown
pub record GrowsByStep (t t' : Trace) (job : ℕ) (out : StepOut) : Type 0 where
  pub step : Step
  pub steps : t'.steps ≡ t.steps ++ step ∷ []
  pub image : t'.image ≡ t.image
  pub calls : t'.calls ≡ t.calls
  pub own : step.job ≡ job
  pub shown : IsShownBy step out

-- the store's clock at moment k: that of the step before, or of the beginning
abbrev pub clock_before : Run → ℕ → ℕ
clock_before r zero = r.clock
clock_before r (suc k) = option_map_or (λ x. x.at.clock) (step_at (trace_of r) k) r.clock

-- A step is of the job that the log has at its place. Its clock is the greater of the clock before and the moment that was given; its own
-- moment is the one that was given, or the clock.
pub record IsLogged (r : Run) (k : ℕ) (e : Event) (x : Step) : Type 0 where
  pub job : x.job ≡ e.job
  pub clock : x.at.clock ≡ max (clock_before r k) e.now
  pub own : x.at.own ≡ unwrap_or e.own x.at.clock

-- What a world shows is what the trace of its run says: one step for each event, of its job and at its moment, and after the last step its
-- directories and effects; and a job has the answer that a step of it gave.
pub record IsShown (r : Run) : Type 0 where
  pub steps : length (trace_of r).steps ≡ length r.events
  pub logged : (k : ℕ) (e : Event) (x : Step) → slice_get (log_of r) k ≡ Some e → step_at (trace_of r) k ≡ Some x → IsLogged r k e x
  pub dirs : state (trace_of r) (length r.events) ≡ dirs_of r
  pub effects : effects (trace_of r) (length r.events) ≡ effects_of r
  pub answer : (job : ℕ) (a : Answer) → answer_of (job_at (jobs_of r) job) ≡ Some a → IsAnswered (trace_of r) job a
  pub answered : (job : ℕ) (a : Answer) → IsAnswered (trace_of r) job a → answer_of (job_at (jobs_of r) job) ≡ Some a

-- a run and a later one show the same directories at each moment that the first has come to
abbrev pub KeepsStates : Run → Run → Type 0
KeepsStates r r' = (k : ℕ) → k ≤ length r.events → state (trace_of r') k ≡ state (trace_of r) k
