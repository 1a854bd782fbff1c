-- A turn of a job: the one directory call that it makes next, and what follows each reply.
use Rattle.std.specs.Prelude.{ℕ, ◌≡◌, ◌+◌, List, [], ◌++◌, Option, Some, None, Result, Ok, Err, IfOk, IfErr, OnErr, Bool, is_some, if◌then◌else◌}
use Rattle.std.specs.Option.{option_to_list}
use Rattle.md_dirs.specs.State.{State}
use Rattle.md_dirs.specs.Rows.{rows_of}
use Rattle.md_dirs.specs.Calls.{Ask, Device}
use Rattle.md_dirs.specs.declared.rows.Row.{Row}
use Rattle.md_dirs.specs.declared.calls.DirError.{DirError}
use Rattle.md_dirs.specs.declared.calls.DirError.TheVariants.{Exists, NotFound, Fault, NoMemory}
use Rattle.md_jobs.specs.declared.answer.Answer.{Answer}
use Rattle.md_jobs.specs.declared.effect.Effect.{Effect}
use Rattle.md_jobs.specs.declared.error.CoreError.{CoreError}
use Rattle.md_jobs.specs.declared.error.CoreError.TheVariants as refused
use Rattle.md_jobs.specs.declared.step.DirCall.{DirCall}
use Rattle.md_jobs.specs.declared.step.DirReply.{DirReply}
use Rattle.md_jobs.specs.declared.step.DirReply.TheVariants as reply
use Rattle.md_jobs.specs.declared.step.Moment.{Moment}
use Rattle.md_jobs.specs.declared.step.StepOut.{StepOut}
use Rattle.md_jobs.specs.declared.turn.Turned.{Turned}
use Rattle.md_jobs.specs.Asked.{Asked, create, append, link, rename, unlink, list, ask_of, shown_call, reply_by, state_by, is_fault}

-- the rows that a listing reads, and none for other calls
abbrev pub rows_for : Asked → State → List Row
rows_for (list folder place) s = rows_of s folder place
rows_for (create p) s = []
rows_for (append p bytes) s = []
rows_for (link old new) s = []
rows_for (rename old new) s = []
rows_for (unlink p) s = []

-- How far a job of the kind T is after a reply: its task, its answer, where it has one now, and its effect, where this step is one.
pub record After (T : Type 0) : Type 0 where
  pub task : T
  pub answer : Option Answer
  pub effect : Option Effect

-- the directory call that a job makes next, and how far it is after each reply
pub record Turn (T : Type 0) : Type 0 where
  pub asked : Asked
  pub follows : DirReply → List Row → After T

-- the job goes on, with no answer and no effect
abbrev pub goes_on : {T : Type 0} → T → After T
goes_on t = record { task = t; answer = None; effect = None }

-- the job ends with an answer, and this step is no effect
abbrev pub ends : {T : Type 0} → T → Answer → After T
ends t a = record { task = t; answer = Some a; effect = None }

-- the job goes on, and this step is its effect
abbrev pub acts : {T : Type 0} → T → Effect → After T
acts t e = record { task = t; answer = None; effect = Some e }

-- the job ends with the answer of its effect, which this step is
abbrev pub ends_by : {T : Type 0} → T → Effect → After T
ends_by t e = record { task = t; answer = Some e.answer; effect = Some e }

-- what a directory call answers, by whether it faults
abbrev pub reply_of : Ask → State → Bool → DirReply
reply_of ask s faulted = if faulted then reply.Fault else reply_by (ask.refusal s)

-- what directories answered, unless memory ran out
abbrev pub reply_from : {T : Type 0} → Result T DirError → Option DirReply
reply_from (Ok x) = Some reply.Ok
reply_from (Err Exists) = Some reply.Exists
reply_from (Err NotFound) = Some reply.NotFound
reply_from (Err Fault) = Some reply.Fault
reply_from (Err NoMemory) = None

-- A directory call was made, with this reply and what it leaves. A fault is a new failure, and nothing else is.
pub record Replies (ask : Ask) (old : Device) (r : DirReply) (new : Device) : Type 0 where
  pub replied : r ≡ reply_of ask old.state (is_fault r)
  pub state : new.state ≡ state_by ask old.state r
  pub failed : new.failures ≡ (if is_fault r then old.failures + 1 else old.failures)
  pub called : new.calls ≡ old.calls + 1

-- directories that are as they were, and of which no call was made
pub record IsUntouched (old new : Device) : Type 0 where
  pub state : new.state ≡ old.state
  pub failures : new.failures ≡ old.failures
  pub calls : new.calls ≡ old.calls

-- There was no memory, so no call was made, and the directories are as they were.
pub record NoCall (old new : Device) (e : CoreError) : Type 0 where
  pub memory : e ≡ refused.NoMemory
  pub dirs : IsUntouched old new

-- What a turn shows after this call and reply, and its effect, which joins the effects.
pub record Shows (made : DirCall) (r : DirReply) (effects effects' : List Effect) (t : Turned) : Type 0 where
  pub call : t.out.call ≡ made
  pub reply : t.out.reply ≡ r
  pub effect : t.out.effect ≡ is_some t.effect.value
  pub pushed : effects' ≡ effects ++ option_to_list t.effect.value

-- A turn was taken, and its effect joined the effects; or there was no memory for it, and then the job, the effects and the directories are
-- as they were.
pub record TurnOf {T : Type 0} (taken : Turned → Type 0) (before after : T) (effects effects' : List Effect) (old new : Device)
    (result : Result Turned CoreError) : Type 0 where
  pub ok : IfOk result taken
  pub pushed : IfOk result (λ t. effects' ≡ effects ++ option_to_list t.effect.value)
  pub refused : IfErr result (NoCall old new)
  pub kept : OnErr result (effects' ≡ effects)
  pub task : OnErr result (after ≡ before)

-- A turn was taken: its one directory call was made and no other, and the job is as far as the turn says.
pub record Takes {T : Type 0} (turn : Turn T) (at : Moment) (old : Device)
    (out : StepOut) (effect : Option Effect) (task : T) (new : Device) : Type 0 where
  pub call : out.call ≡ shown_call turn.asked
  pub made : Replies (ask_of turn.asked at.clock) old out.reply new
  pub after : turn.follows out.reply (rows_for turn.asked old.state) ≡ record { task = task; answer = out.answer; effect = effect }
  pub is_effect : out.effect ≡ is_some effect

-- How far a job is after a reply: of one that ended only its answer is kept, so nothing is said of its task.
pub record FollowsOrEnds {T : Type 0} (follows : After T) (task : T) (answer : Option Answer) (effect : Option Effect) : Type 0 where
  pub left : T
  pub after : follows ≡ record { task = left; answer = answer; effect = effect }
  pub goes_on : answer ≡ None → left ≡ task

-- A turn was taken, and where the job goes on it has this task.
pub record TakesOrEnds {T : Type 0} (turn : Turn T) (at : Moment) (old : Device)
    (out : StepOut) (effect : Option Effect) (task : T) (new : Device) : Type 0 where
  pub left : T
  pub takes : Takes turn at old out effect left new
  pub goes_on : out.answer ≡ None → left ≡ task
