-- What a world keeps beside its run, and how that is told from the run.
use Rattle.std.specs.Prelude.{ℕ, ◌≡◌, ◌<◌, List, [], ◌∷◌, Some, Bool, true, length, map, take, slice_get, vec_len, vec_capacity}
use Rattle.md_jobs.specs.declared.call.Call.{Call}
use Rattle.md_jobs.specs.declared.error.CoreError.{CoreError}
use Rattle.md_jobs.specs.declared.step.Event.{Event}
use Rattle.md_jobs.specs.declared.effect.Effect.{Effect}
use Rattle.md_core.specs.declared.world.log.Log.{Log}
use Rattle.md_dirs.specs.Calls.{Device}
use Rattle.md_core.specs.Machine.{Machine, Occurrence, job_at}
use Rattle.md_core.specs.Standing.{JobView, standings}
use Rattle.md_core.specs.Runs.{Run, machine_of, dirs_of, jobs_of, failures_of, calls_made_of, and_events, step_refusal, IsRefusal}
use Rattle.md_core.specs.Submitting.{is_used}
use Rattle.md_core.specs.Gathering.{Covers, is_used_before, may_change}
use Rattle.md_used.specs.Used.{is_among}
use Rattle.md_used.specs.declared.used.Used.{Used}
use Rattle.md_core.specs.Stepping.{IsRun}

-- events and their marks
abbrev pub occurrences : List Event → List Bool → List Occurrence
occurrences [] marks = []
occurrences (e ∷ es) [] = []
occurrences (e ∷ es) (b ∷ bs) = record { event = e; faulted = b } ∷ occurrences es bs

-- there is room for one more step
pub record HasRoom (log : Log) : Type 0 where
  pub events : vec_len log.events < vec_capacity log.events
  pub marks : vec_len log.marks < vec_capacity log.marks
  pub effects : vec_len log.effects < vec_capacity log.effects

-- the run: the directories and the clock at the beginning, the calls of the jobs, and the marked events
abbrev pub run_of : Device → ℕ → List JobView → List Event → List Bool → Run
run_of first began jobs events marks = record {
  image = first.state;
  clock = began;
  failures = first.failures;
  calls_made = first.calls;
  calls = map (λ job. job.call) jobs;
  events = occurrences events marks;
}

-- the machine that directories, a clock, jobs and effects are
abbrev pub machine_by : Device → ℕ → List JobView → List Effect → Machine
machine_by now clock jobs effects = record { dirs = now.state; clock = clock; jobs = standings jobs; effects = effects }

-- The names that a world keeps are those since it began that a call makes or may take away, and those that were gathered: together with all
-- that the directories use. A name is used up where it is among the former, or the directories use it.
pub record AreUsed (r : Run) (used : Used) : Type 0 where
  pub changed : (i : ℕ) (call : Call) → slice_get r.calls i ≡ Some call → (u : List ℕ) → may_change (dirs_of r) call u ≡ true →
      is_among u used.since ≡ true
  pub same : (u : List ℕ) → is_used_before (dirs_of r) used u ≡ is_used r u
  pub covers : Covers (dirs_of r) used

-- The directories, clock, jobs and effects that a world keeps are those of its run. Its directories failed as often since the
-- beginning as the run has marks, as many calls of them were made as the run has events, and its used names are those of the run.
pub record IsWorld (r : Run) (kept : Machine) (held : Device) (used : Used)
    (events : List Event) (marks : List Bool) : Type 0 where
  pub run : IsRun r
  pub now : kept ≡ machine_of r
  pub failed : held.failures ≡ failures_of r
  pub called : held.calls ≡ calls_made_of r
  pub names : AreUsed r used
  pub as_many : length marks ≡ length events

-- the run goes on by these events, each with some mark
abbrev pub TakesAll : List Event → Run → Run → Type 0
TakesAll events r r' = (marks : List Bool) × (length marks ≡ length events) × (r' ≡ and_events r (occurrences events marks))

-- the events before a place were taken, and the one at that place is refused
abbrev pub StopsAt : List Event → ℕ → CoreError → Run → Run → Type 0
StopsAt events at error r r' = TakesAll (take at events) r r'
    × ((event : Event) × (slice_get events at ≡ Some event) × IsRefusal (step_refusal (job_at (jobs_of r') event.job)) error)
