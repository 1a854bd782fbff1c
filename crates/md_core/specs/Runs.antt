-- A run: directories and the clock at the beginning, the calls that were submitted, and the events since. All else of a world is a
-- function of these.
use Rattle.std.specs.Prelude.{ℕ, ◌≡◌, ◌+◌, ◌==◌, List, [], ◌∷◌, ◌++◌, Option, Some, None, map, max, take, fold, slice_get, length, count_by}
use Rattle.std.specs.List.{position_or_len}
use Rattle.std.specs.Option.{option_and_then}
use Rattle.std.specs.FinMap as finmap
use Rattle.md_dirs.specs.State.{State, file_by}
use Rattle.md_dirs.specs.Calls.{Device}
use Rattle.md_dirs.specs.declared.paths.File.{File}
use Rattle.md_dirs.specs.declared.paths.Path.{Path}
use Rattle.md_core.specs.Mailbox.{Mailbox, mailbox_of}
use Rattle.md_jobs.specs.declared.error.CoreError.{CoreError}
use Rattle.md_jobs.specs.declared.error.CoreError.TheVariants as core
use Rattle.md_jobs.specs.declared.answer.Answer.{Answer}
use Rattle.md_jobs.specs.declared.call.Call.{Call}
use Rattle.md_jobs.specs.declared.effect.Effect.{Effect}
use Rattle.md_jobs.specs.declared.step.Event.{Event}
use Rattle.md_core.specs.Machine.{Machine, Standing, working, answered, Occurrence, after_event, step_of, new_job, job_at}
use Rattle.md_core.specs.Machine as machine
use Rattle.md_core.specs.Trace.{Step}

-- directories, their clock, calls and marked events: a world's whole history
pub record Run : Type 0 where
  -- the directories at the beginning
  pub image : State
  -- the clock at the beginning, in seconds; no file of the directories has a later stamp
  pub clock : ℕ
  -- how often these had failed by then, and how many calls were made of them
  pub failures : ℕ
  pub calls_made : ℕ
  -- the calls of the jobs
  pub calls : List Call
  pub events : List Occurrence

-- the stamp of a file
abbrev pub stamp_of : Option File → ℕ
stamp_of None = 0
stamp_of (Some file) = file.stamp

-- the greatest stamp of the files of entries, or 0
abbrev pub clock_by : State → List (Path × ℕ) → ℕ
clock_by s es = fold (λ clock e. max clock (stamp_of (file_by s.files e.1))) 0 es

-- the greatest stamp of all files that have a name, or 0
abbrev pub first_clock : State → ℕ
first_clock s = clock_by s (finmap.entries s.names)

-- a run of no call and no event
abbrev pub new_run : Device → Run
new_run first = record {
  image = first.state;
  clock = first_clock first.state;
  failures = first.failures;
  calls_made = first.calls;
  calls = [];
  events = [];
}

-- the machine before the first event, with all jobs
abbrev pub beginning : State → ℕ → List Call → Machine
beginning image clock calls = record { dirs = image; clock = clock; jobs = map new_job calls; effects = [] }

-- one event after another
unfoldable pub run_from : Machine → List Occurrence → Machine
run_from m [] = m
run_from m (e ∷ es) = run_from (after_event m e) es

-- moment k of a run: the machine after the first k events
abbrev pub machine_at : Run → ℕ → Machine
machine_at r k = run_from (beginning r.image r.clock r.calls) (take k r.events)

-- the machine after all events
abbrev pub machine_of : Run → Machine
machine_of r = run_from (beginning r.image r.clock r.calls) r.events

-- what event k did
abbrev pub done_at : Run → ℕ → Option Step
done_at r k = option_and_then (step_of (machine_at r k)) (slice_get r.events k)

-- the number of the first event of a job, or of all events where it has none
abbrev pub first_step : Run → ℕ → ℕ
first_step r job = position_or_len (λ e. e.event.job == job) r.events

-- the directories before the first step of a job, or as they are where it has taken none
abbrev pub dirs_at_first : Run → ℕ → State
dirs_at_first r job = (machine_at r (first_step r job)).dirs

-- the mailbox at a moment
abbrev pub box_in : Machine → Mailbox
box_in m = mailbox_of m.dirs

-- the directories after all events
abbrev pub dirs_of : Run → State
dirs_of r = (machine_of r).dirs

-- the jobs after all events
abbrev pub jobs_of : Run → List Standing
jobs_of r = (machine_of r).jobs

-- the history: the effects in their order
abbrev pub effects_of : Run → List Effect
effects_of r = (machine_of r).effects

-- how often the directories have failed: once at each marked event, and those before
abbrev pub failures_of : Run → ℕ
failures_of r = r.failures + count_by (λ e. e.faulted) r.events

-- how many calls were made of the directories: one at each event, and those before
abbrev pub calls_made_of : Run → ℕ
calls_made_of r = r.calls_made + length r.events

-- jobs and moments, without the marks
abbrev pub log_of : Run → List Event
log_of r = map (λ e. e.event) r.events

-- a run with one more event
abbrev pub and_event : Run → Occurrence → Run
and_event r e = record r { events = r.events ++ e ∷ [] }

-- a run with more events
abbrev pub and_events : Run → List Occurrence → Run
and_events r es = record r { events = r.events ++ es }

-- a run with one more call
abbrev pub and_call : Run → Call → Run
and_call r call = record r { calls = r.calls ++ call ∷ [] }

-- the answer of a job, if it is there and has one
abbrev pub answer_of : Option Standing → Option Answer
answer_of None = None
answer_of (Some (working task)) = None
answer_of (Some (answered a)) = Some a

-- how many steps the job of a number takes at most from here to its answer, if no other job takes one
abbrev pub steps_left : Run → ℕ → ℕ
steps_left r job = machine.steps_left (dirs_of r) (job_at (jobs_of r) job)

-- where a step of a job is refused, out of memory aside: no such job, or it has its answer
abbrev pub step_refusal : Option Standing → Option CoreError
step_refusal None = Some core.NoJob
step_refusal (Some (working task)) = None
step_refusal (Some (answered a)) = Some core.Answered

-- an error is this refusal; where there is none, memory ran out
abbrev pub IsRefusal : Option CoreError → CoreError → Type 0
IsRefusal None e = e ≡ core.NoMemory
IsRefusal (Some refusal) e = e ≡ refusal
