-- A job whose directory calls its caller makes: it is asked for its next call, and goes on by what was replied and read.
use Rattle.std.specs.Prelude.{ℕ, ◌≡◌, ◌⊎◌, List, [], ◌∷◌, ◌++◌, Option, Some, None, Result, Ok, Err, is_some, if◌then◌else◌}
use Rattle.md_dirs.specs.declared.rows.Row.{Row}
use Rattle.md_jobs.specs.Asked.{Asked, shown_call}
use Rattle.md_jobs.specs.Turn.{Turn}
use Rattle.md_jobs.specs.declared.call.Call.{Call}
use Rattle.md_jobs.specs.declared.error.CoreError.TheVariants.{Answered}
use Rattle.md_jobs.specs.declared.step.DirReply.{DirReply}
use Rattle.md_jobs.specs.declared.step.Moment.{Moment}
use Rattle.md_jobs.specs.declared.step.StepOut.{StepOut}
use Rattle.md_core.specs.Machine.{Standing, working, answered, new_job, turn_of, with_answer}
use Rattle.md_core.specs.Tasks.Task.{Task}
use Rattle.md_script.specs.declared.error.PlayKind.TheVariants.{Core, NoMemory}
use Rattle.md_driven.specs.Laying.{Keeps}
use Rattle.md_driven.specs.Numbers.{refusal_number}
use Rattle.md_driven.specs.Requested.{LaysRequest}
use Rattle.md_driven.specs.declared.refusal.Refusal.{Refusal}
use Rattle.md_driven.specs.declared.refusal.Refusal.TheVariants.{Asked as AskedBefore, Kind, NotAsked}
use Rattle.md_driven.specs.declared.request.RequestShown.{RequestShown}

-- How far the job is; when its next call was asked for, while the reply is waited for; and the rows that were read since.
pub record Driving : Type 0 where
  pub standing : Standing
  pub asked : Option Moment
  pub rows : List Row

-- the job of a call, not begun
abbrev pub driving_of : Call → Driving
driving_of call = record { standing = new_job call; asked = None; rows = [] }

-- the job is alone with its caller: this is its number
abbrev pub job_number : ℕ
job_number = 1

-- why a job is not asked for its next call: it is answered, or a reply is waited for
abbrev pub refusal_to_ask : Standing → Option Moment → Option Refusal
refusal_to_ask (answered a) asked = Some (Kind (Core Answered))
refusal_to_ask (working task) None = None
refusal_to_ask (working task) (Some at) = Some AskedBefore

-- why a job is not asked for its next call
abbrev pub ask_refusal : Driving → Option Refusal
ask_refusal d = refusal_to_ask d.standing d.asked

-- the next call was asked for, at a second
abbrev pub asked_at : ℕ → Driving → Driving
asked_at second d = record d { asked = Some (record { clock = second; own = second }); rows = [] }

-- why it hears no row: none is read where no reply is waited for
abbrev pub hear_refusal : Driving → Option Refusal
hear_refusal d = if is_some d.asked then None else Some NotAsked

-- one row more was read
abbrev pub with_row : Row → Driving → Driving
with_row row d = record d { rows = d.rows ++ row ∷ [] }

-- The call that was asked for: that of the machine, at the moment of the asking.
abbrev pub call_of : Standing → Option Moment → Result Asked Refusal
call_of (working task) (Some at) = Ok (turn_of job_number task at).asked
call_of (working task) None = Err NotAsked
call_of (answered a) asked = Err NotAsked

-- the call that it was asked for
abbrev pub requested : Driving → Result Asked Refusal
requested d = call_of d.standing d.asked

-- the call that was asked for was shown, or none was; or memory ran out
abbrev pub LaysAsked : Result Asked Refusal → RequestShown → RequestShown → List ℕ → List ℕ → ℕ → ℕ → ℕ → Type 0
LaysAsked (Ok asked) shown_before shown old new before whole status =
    LaysRequest asked shown old new whole status ⊎ ((shown ≡ shown_before) × Keeps 4 old new before whole status)
LaysAsked (Err refusal) shown_before shown old new before whole status =
    (shown ≡ shown_before) × Keeps (refusal_number refusal) old new before whole status

-- A turn was taken by this reply and these rows, and is shown. A job that has no answer goes on with this task.
pub record Took {T : Type 0} (turn : Turn T) (r : DirReply) (rows : List Row) (task : T) (out : StepOut) : Type 0 where
  pub call : out.call ≡ shown_call turn.asked
  pub reply : out.reply ≡ r
  pub effect : out.effect ≡ is_some (turn.follows r rows).effect
  pub answered : (turn.follows r rows).answer ≡ out.answer
  pub goes_on : out.answer ≡ None → (turn.follows r rows).task ≡ task

-- A job that waited for a reply took it, with the rows that were read: it took the turn of its machine, at the moment of the asking.
pub record TookReply (r : DirReply) (old new : Driving) (out : StepOut) : Type 0 where
  pub task : Task
  pub at : Moment
  pub left : Task
  pub was : old.standing ≡ working task
  pub asked : old.asked ≡ Some at
  pub took : Took (turn_of job_number task at) r old.rows left out
  pub is : new ≡ record { standing = with_answer (working left) out.answer; asked = None; rows = [] }

-- A reply was taken, or was not waited for; or memory ran out. Then the job is as it was.
abbrev pub TakesReply : DirReply → Driving → Driving → Result StepOut Refusal → Type 0
TakesReply r old new (Ok out) = TookReply r old new out
TakesReply r old new (Err e) = (new ≡ old) × ((e ≡ Kind NoMemory) ⊎ (requested old ≡ Err e))
