-- Runs of jobs on a disk, as the contracts of `md_system` promise them, and the stories that show one.
use Rattle.std.specs.Prelude.{ℕ, suc, ◌≡◌, List, [], Option, Some, None, take, drop, length, count_by, slice_get, is_some, if◌then◌else◌}
use Rattle.std.specs.Option.{option_to_list, option_map}
use Rattle.md_dirs.specs.Rows.{row_named}
use Rattle.md_dirs.specs.State.{State}
use Rattle.md_dirs.specs.declared.rows.Row.{Row}
use Rattle.md_jobs.specs.Machines.Clean.{new_cleaning, cleaning_turn, old_names}
use Rattle.md_jobs.specs.Machines.Deliver.{new_delivery, delivery_turn}
use Rattle.md_jobs.specs.Machines.Errand.{new_errand, errand_turn}
use Rattle.md_jobs.specs.Turn.{Turn, rows_for}
use Rattle.md_jobs.specs.declared.answer.Answer.{Answer}
use Rattle.md_jobs.specs.declared.call.Call.{Call}
use Rattle.md_jobs.specs.declared.call.Call.TheVariants as call
use Rattle.md_jobs.specs.declared.purpose.Purpose.{Purpose}
use Rattle.md_jobs.specs.declared.purpose.Purpose.TheVariants as purpose
use Rattle.md_jobs.specs.declared.step.DirReply.TheVariants as reply
use Rattle.md_jobs.specs.declared.step.Moment.{Moment}
use Rattle.md_core.specs.Machine.{working, turn_of}
use Rattle.md_core.specs.Tasks.Task.{Task}
use Rattle.md_core.specs.Trace.{call_at}
use Rattle.md_system.specs.Exchanges.{Exchange, Ran, Began}
use Rattle.md_beside.specs.Story.{Story, Step, ours, asked, step_at, state, standing, is_by, IsTurn}
use Rattle.md_beside.specs.Beside.{IsStepOf, IsAnswered}

-- ---- a run

-- a run to an answer, or one that has none since memory was wanting
abbrev pub HasRun : {T : Type 0} → (T → Moment → Turn T) → T → List Exchange → List Exchange → Option Answer → Type 0
HasRun turn t old new (Some a) = Ran turn t old new a
HasRun turn t old new None = Began turn t old new

-- what `run_errand` promises
abbrev pub ErrandHasRun : ℕ → List ℕ → Purpose → ℕ → List Exchange → List Exchange → Option Answer → Type 0
ErrandHasRun folder unique purpose tries = HasRun (λ e at. errand_turn 1 e) (new_errand folder unique purpose tries)

-- What `deliver`, `run_errand` and `clean` promise of a run of this call, by all exchanges at its beginning and at its end. A run on a disk
-- knows no other job, so its number is 1.
abbrev pub IsRunOf : Call → List Exchange → List Exchange → Option Answer → Type 0
IsRunOf (call.Deliver folder u body chunk) = HasRun (delivery_turn 1) (new_delivery folder u body chunk)
IsRunOf (call.Clean folder) = HasRun (λ c at. cleaning_turn c at.own) (new_cleaning folder)
IsRunOf (call.Seen folder u flags tries) = ErrandHasRun folder u (purpose.Seen flags) tries
IsRunOf (call.Flag folder u add remove tries) = ErrandHasRun folder u (purpose.Flag add remove) tries
IsRunOf (call.Move folder u to tries) = ErrandHasRun folder u (purpose.Move to) tries
IsRunOf (call.Copy folder u to fresh tries) = ErrandHasRun folder u (purpose.Copy to fresh) tries
IsRunOf (call.Expunge folder u tries) = ErrandHasRun folder u purpose.Expunge tries

-- ---- a reading is one moment

-- the name that an errand finds in the rows of a reading
abbrev pub name_found : List ℕ → List Row → List (List ℕ)
name_found unique rows = option_to_list (option_map (λ row. row.name) (row_named unique rows))

-- The names by which a job goes on from the rows of a reading, at a moment of its own clock: a clean by those of old files, an errand by
-- that of its message.
abbrev pub names_found : Call → ℕ → List Row → List (List ℕ)
names_found (call.Deliver folder u body chunk) own rows = []
names_found (call.Clean folder) own rows = old_names own rows
names_found (call.Seen folder u flags tries) own rows = name_found u rows
names_found (call.Flag folder u add remove tries) own rows = name_found u rows
names_found (call.Move folder u to tries) own rows = name_found u rows
names_found (call.Copy folder u to fresh tries) own rows = name_found u rows
names_found (call.Expunge folder u tries) own rows = name_found u rows

-- A reading is one moment: if it was done, the job goes on by the names that the rows of these directories give.
abbrev pub IsOneMoment : Call → Exchange → State → Type 0
IsOneMoment c e s = e.heard.reply ≡ reply.Ok →
    names_found c e.heard.at.own e.heard.rows ≡ names_found c e.heard.at.own (rows_for e.asked s)

-- ---- a story that shows a run

-- how many steps of its own a job has taken by moment k
abbrev pub steps_taken : Story → ℕ → ℕ → ℕ
steps_taken t job k = count_by (λ x. is_by job x.who) (take k t.steps)

-- A step shows an exchange of the run of a call: the same call, reply, and moment of the job's own clock; and the exchange's reading is one
-- moment, that of the step.
pub record ShowsExchange (s : State) (c : Call) (x : Step) (e : Exchange) : Type 0 where
  pub made : x.did ≡ asked e.asked
  pub replied : x.reply ≡ e.heard.reply
  pub at : x.at.own ≡ e.heard.at.own
  pub one_moment : IsOneMoment c e s

-- An exchange has no effect, since nobody sees one. The step has that of the job's machine.
abbrev pub ShowsEffect : Story → ℕ → Call → ℕ → Step → Type 0
ShowsEffect t job c k x = (task : Task) → standing t job c k ≡ working task
    → ((turn_of job task x.at).follows x.reply (rows_for (turn_of job task x.at).asked (state t k))).effect ≡ x.effect

-- The job's own steps show the exchanges of a run, one by one and in order, and the last exchange comes with the run's answer, if it has
-- one. The story may end before the run does.
pub record ShowsRun (t : Story) (job : ℕ) (c : Call) (run : List Exchange) (answer : Option Answer) : Type 0 where
  pub shows : (k : ℕ) (own : IsStepOf t job k)
      → (e : Exchange) × (slice_get run (steps_taken t job k) ≡ Some e) × ShowsExchange (state t k) c own.step e
  pub answers : (k : ℕ) (own : IsStepOf t job k)
      → own.step.answer ≡ (if is_some (slice_get run (suc (steps_taken t job k))) then None else answer)
  pub affects : (k : ℕ) (own : IsStepOf t job k) → ShowsEffect t job c k own.step

-- ---- the law

-- Each own step of the job is a turn of its machine. An answer of the job is that of the run, and where the story shows all calls of the
-- run, the job has the run's answer.
pub record IsJobOf (t : Story) (job : ℕ) (run : List Exchange) (answer : Option Answer) : Type 0 where
  pub turns : (k : ℕ) (x : Step) → step_at t k ≡ Some x → x.who ≡ ours job → IsTurn t k x job
  pub answered : (a : Answer) → IsAnswered t job a → answer ≡ Some a
  pub ended : (a : Answer) → answer ≡ Some a → steps_taken t job (length t.steps) ≡ length run → IsAnswered t job a

-- A run on a disk, as a story shows it, is a job of the story.
abbrev pub RunsAreJobs : Type 0
RunsAreJobs = (t : Story) (job : ℕ) (c : Call) → call_at t.calls job ≡ Some c
    → (old new : List Exchange) (answer : Option Answer) → IsRunOf c old new answer
    → ShowsRun t job c (drop (length old) new) answer → IsJobOf t job (drop (length old) new) answer
