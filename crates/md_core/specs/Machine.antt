-- The jobs as machines over the directories: at an event one job takes its turn.
use Rattle.std.specs.Prelude.{ℕ, ◌-◌, List, ◌++◌, Option, Some, None, Bool, true, false, max, is_some, slice_get, slice_set, unwrap_or, zero, suc}
use Rattle.std.specs.Option.{option_to_list, option_map}
use Rattle.md_dirs.specs.State.{State}
use Rattle.md_core.specs.Trace.{Step}
use Rattle.md_jobs.specs.Asked.{ask_of, shown_call, state_by}
use Rattle.md_jobs.specs.Turn.{Turn, rows_for, reply_of}
use Rattle.md_jobs.specs.Machines.Deliver.{new_delivery, delivery_turn}
use Rattle.md_jobs.specs.Machines.Deliver as delivered_by
use Rattle.md_jobs.specs.Machines.Errand.{new_errand, errand_turn}
use Rattle.md_jobs.specs.Machines.Errand as run_by
use Rattle.md_jobs.specs.Machines.Clean.{new_cleaning, cleaning_turn}
use Rattle.md_jobs.specs.Machines.Clean as cleaned_by
use Rattle.md_jobs.specs.Machines.Purposes.{searches}
use Rattle.md_jobs.specs.declared.call.Call.{Call}
use Rattle.md_jobs.specs.declared.call.Call.TheVariants as call
use Rattle.md_jobs.specs.declared.answer.Answer.{Answer}
use Rattle.md_jobs.specs.declared.effect.Effect.{Effect}
use Rattle.md_jobs.specs.declared.step.DirReply.{DirReply}
use Rattle.md_jobs.specs.declared.step.Event.{Event}
use Rattle.md_jobs.specs.declared.step.Moment.{Moment}
use Rattle.md_jobs.specs.declared.step.StepOut.{StepOut}
use Rattle.md_jobs.specs.declared.purpose.Purpose.TheVariants as purpose
use Rattle.md_core.specs.Tasks.Task.{Task, Deliver, Errand, Clean}

-- a turn of one kind of task, as a turn of a task
abbrev pub as_task : {T : Type 0} → (T → Task) → Turn T → Turn Task
as_task wrap t = record {
  asked = t.asked;
  follows = λ r rows. let after = t.follows r rows in record { task = wrap after.task; answer = after.answer; effect = after.effect };
}

-- The turn of a task, by the number of its job and the moment.
abbrev pub turn_of : ℕ → Task → Moment → Turn Task
turn_of job (Deliver d) at = as_task Deliver (delivery_turn job d at)
turn_of job (Errand e) at = as_task Errand (errand_turn job e)
turn_of job (Clean c) at = as_task Clean (cleaning_turn c at.own)

-- How far a job is: at work, or answered. One that is answered holds nothing but its answer.
pub data Standing : Type 0 where
  working : (task : Task) → Standing
  answered : (answer : Answer) → Standing

-- whether a job has no answer
abbrev pub is_working : Standing → Bool
is_working (working task) = true
is_working (answered a) = false

-- a job at its beginning
abbrev pub new_job : Call → Standing
new_job (call.Deliver folder unique body chunk) = working (Deliver (new_delivery folder unique body chunk))
new_job (call.Seen folder unique flags tries) = working (Errand (new_errand folder unique (purpose.Seen flags) tries))
new_job (call.Flag folder unique add remove tries) = working (Errand (new_errand folder unique (purpose.Flag add remove) tries))
new_job (call.Move folder unique to tries) = working (Errand (new_errand folder unique (purpose.Move to) tries))
new_job (call.Expunge folder unique tries) = working (Errand (new_errand folder unique purpose.Expunge tries))
new_job (call.Copy folder unique to fresh tries) = working (Errand (new_errand folder unique (purpose.Copy to fresh) tries))
new_job (call.Clean folder) = working (Clean (new_cleaning folder))

-- How many steps a job takes at most from here to its answer, if no other job takes one: by its task, and none where it is not there or has
-- its answer. A clean that has not begun goes by the names of tmp that are there.
abbrev pub steps_left : State → Option Standing → ℕ
steps_left s (Some (working (Deliver d))) = delivered_by.steps_left d d.stage
steps_left s (Some (working (Errand e))) = run_by.steps_left (searches e.purpose) e.stage
steps_left s (Some (working (Clean c))) = cleaned_by.steps_left s c.folder c.stage
steps_left s job = 0

-- the directories, the clock, how far each job is, and the effects so far
pub record Machine : Type 0 where
  pub dirs : State
  -- in seconds
  pub clock : ℕ
  pub jobs : List Standing
  pub effects : List Effect

-- jobs are numbered from 1
abbrev pub job_at : List Standing → ℕ → Option Standing
job_at jobs zero = None
job_at jobs (suc i) = slice_get jobs i

-- the task of a job that is there and has no answer
abbrev pub task_of : Option Standing → Option Task
task_of None = None
task_of (Some (working task)) = Some task
task_of (Some (answered a)) = None

-- an event, and whether its directory call faulted
pub record Occurrence : Type 0 where
  pub event : Event
  pub faulted : Bool

-- an event of a job at a moment, with its mark
abbrev pub occurrence : ℕ → ℕ → Option ℕ → Bool → Occurrence
occurrence job now own faulted = record { event = record { job = job; now = now; own = own }; faulted = faulted }

-- The moment of an event: the clock is the greater of itself and the event's moment. A job that has no own moment goes by the clock.
abbrev pub moment_of : ℕ → Event → Moment
moment_of clock e = record { clock = max clock e.now; own = unwrap_or e.own (max clock e.now) }

-- how far a job is once it may have an answer
abbrev pub with_answer : Standing → Option Answer → Standing
with_answer job None = job
with_answer job (Some a) = answered a

-- how far a job is after a turn
abbrev pub standing_of : Task → Option Answer → Standing
standing_of task a = with_answer (working task) a

-- the machine after a turn of the job of a number, and this reply
abbrev pub after_turn : Machine → ℕ → Moment → Turn Task → DirReply → Machine
after_turn m number at turn r =
    let after = turn.follows r (rows_for turn.asked m.dirs) in
    record {
      dirs = state_by (ask_of turn.asked at.clock) m.dirs r;
      clock = at.clock;
      jobs = slice_set m.jobs (number - 1) (standing_of after.task after.answer);
      effects = m.effects ++ option_to_list after.effect;
    }

-- what the directories reply to a turn, by whether the call faults
abbrev pub reply_to : Machine → Moment → Turn Task → Bool → DirReply
reply_to m at turn faulted = reply_of (ask_of turn.asked at.clock) m.dirs faulted

-- nothing happens without such a job, nor where it has its answer
abbrev pub after_turn_of : Machine → Occurrence → Option Task → Machine
after_turn_of m e None = m
after_turn_of m e (Some task) =
    let at = moment_of m.clock e.event in
    let turn = turn_of e.event.job task at in
    after_turn m e.event.job at turn (reply_to m at turn e.faulted)

-- One event: the job takes its turn at the event's moment.
abbrev pub after_event : Machine → Occurrence → Machine
after_event m e = after_turn_of m e (task_of (job_at m.jobs e.event.job))

-- what an event does that finds its job at this task
abbrev pub step_by : Machine → Occurrence → Task → Step
step_by m e task =
    let at = moment_of m.clock e.event in
    let turn = turn_of e.event.job task at in
    let reply = reply_to m at turn e.faulted in
    let after = turn.follows reply (rows_for turn.asked m.dirs) in
    record { job = e.event.job; asked = turn.asked; reply = reply; at = at; answer = after.answer; effect = after.effect }

-- What an event does, where its job is there and has no answer.
abbrev pub step_of : Machine → Occurrence → Option Step
step_of m e = option_map (step_by m e) (task_of (job_at m.jobs e.event.job))

-- what a step shows of what it did
abbrev pub step_out : Step → StepOut
step_out d = record { call = shown_call d.asked; reply = d.reply; answer = d.answer; effect = is_some d.effect }
