-- What an answer says that comes without an effect: of which moment it is the answer, or what happened to its job. All of it is read off
-- the trace.
use Rattle.std.specs.Prelude.{ℕ, ◌≡◌, ◌+◌, ◌-◌, ◌≤◌, ◌∷◌, ◌⊎◌, ◌==◌, ◌&&◌, List, Some, Bool, true, false, not, nat_le, filter, map, drop, length, count_by}
use Rattle.std.specs.List.{All}
use Rattle.md_dirs.specs.Path.{path_of as path}
use Rattle.md_dirs.specs.Rows.{rows_of, is_named}
use Rattle.md_dirs.specs.declared.paths.Path.{Path}
use Rattle.md_dirs.specs.declared.paths.Place.TheVariants.{Tmp}
use Rattle.md_dirs.specs.declared.rows.Row.{Row}
use Rattle.md_jobs.specs.declared.answer.Answer.{Answer}
use Rattle.md_jobs.specs.declared.answer.Answer.TheVariants as answer
use Rattle.md_jobs.specs.declared.call.Call.{Call}
use Rattle.md_jobs.specs.declared.call.Call.TheVariants as call
use Rattle.md_jobs.specs.declared.effect.Change.{Change}
use Rattle.md_jobs.specs.declared.effect.Change.TheVariants as change
use Rattle.md_jobs.specs.declared.effect.Effect.{Effect}
use Rattle.md_jobs.specs.declared.step.DirReply.{DirReply}
use Rattle.md_jobs.specs.declared.step.DirReply.TheVariants as reply
use Rattle.md_core.specs.Alone.{alone}
use Rattle.md_jobs.specs.Asked.{create, unlink, list}
use Rattle.md_core.specs.Trace.{Trace, Step, IsStepOf, call_at, step_at, state, box, effects}

-- The span of a job goes from the moment before its first step to the moment after its last.
pub record IsInSpan (t : Trace) (job k : ℕ) : Type 0 where
  pub from : ℕ
  pub to : ℕ
  pub begun : IsStepOf t job from
  pub goes_on : IsStepOf t job to
  pub after : from ≤ k
  pub before : k ≤ to + 1

-- the first step of a job
pub record Begins (t : Trace) (job : ℕ) : Type 0 where
  pub k : ℕ
  pub begun : IsStepOf t job k
  pub first : (i : ℕ) → IsStepOf t job i → k ≤ i

-- at some moment of the span of its job the call, made alone, would be answered so
pub record IsOfSpan (t : Trace) (job : ℕ) (c : Call) (a : Answer) : Type 0 where
  pub k : ℕ
  pub in_span : IsInSpan t job k
  pub is : (alone c (box t k)).answer ≡ a

-- whether a change adds, renames or takes away the message of a unique name
abbrev pub is_on : List ℕ → Change → Bool
is_on u (change.Add folder place name size) = is_named u name
is_on u (change.Rename folder place name to_folder to_place to_name) = is_named u name
is_on u (change.Remove folder place name) = is_named u name
is_on u change.Same = false

-- whether an effect of another job touches a unique name
abbrev pub is_touch : ℕ → List ℕ → Effect → Bool
is_touch job u e = not (e.job == job) && is_on u e.change

-- in the span of a job, effects of other jobs touched a unique name at least so often
pub record IsTouched (t : Trace) (job : ℕ) (u : List ℕ) (times : ℕ) : Type 0 where
  pub from : ℕ
  pub to : ℕ
  pub begun : IsStepOf t job from
  pub goes_on : IsStepOf t job to
  pub touched : times ≤ count_by (is_touch job u) (drop (length (effects t from)) (effects t (to + 1)))

-- a call is lost whose message was touched once for each of its tries
abbrev pub IsLost : Trace → ℕ → Call → Type 0
IsLost t job (call.Seen folder u flags tries) = IsTouched t job u tries
IsLost t job (call.Flag folder u add remove tries) = IsTouched t job u tries
IsLost t job (call.Move folder u to tries) = IsTouched t job u tries
IsLost t job (call.Expunge folder u tries) = IsTouched t job u tries
IsLost t job (call.Copy folder u to fresh tries) = IsTouched t job u tries
IsLost t job c = ⊥

-- the step of a job that gave its answer was to unlink a path
pub record HasUnlinked (t : Trace) (job : ℕ) (p : Path) (a : Answer) : Type 0 where
  pub k : ℕ
  pub last : IsStepOf t job k
  pub asked : last.step.asked ≡ unlink p
  pub answer : last.step.answer ≡ Some a

-- by its own clock, the step of a job that gave its answer came 24 hours or more after its first, and was to unlink a path
pub record IsOutOfTime (t : Trace) (job : ℕ) (p : Path) : Type 0 where
  pub first : Begins t job
  pub end : HasUnlinked t job p answer.TimedOut
  pub seconds : 86400 ≤ end.last.step.at.own - first.begun.step.at.own

-- the call is a delivery, which was out of time when it unlinked its file in tmp
abbrev pub IsTimedOut : Trace → ℕ → Call → Type 0
IsTimedOut t job (call.Deliver folder u body chunk) = IsOutOfTime t job (path folder Tmp u)
IsTimedOut t job c = ⊥

-- at step k a clean takes a path away
pub record IsCleanedAway (t : Trace) (k : ℕ) (p : Path) : Type 0 where
  pub step : Step
  pub at : step_at t k ≡ Some step
  pub asked : step.asked ≡ unlink p
  pub ok : step.reply ≡ reply.Ok
  pub folder : ℕ
  pub by : call_at t.calls step.job ≡ Some (call.Clean folder)

-- in the span of a job, a clean took a path away
pub record IsGone (t : Trace) (job : ℕ) (p : Path) : Type 0 where
  pub k : ℕ
  pub cleaned : IsCleanedAway t k p
  pub before : IsInSpan t job k
  pub after : IsInSpan t job (k + 1)

-- the call is a delivery, whose file in tmp a clean took away
abbrev pub IsTmpGone : Trace → ℕ → Call → Type 0
IsTmpGone t job (call.Deliver folder u body chunk) = IsGone t job (path folder Tmp u)
IsTmpGone t job c = ⊥

-- a directory call of the job faulted
pub record IsFaulted (t : Trace) (job : ℕ) : Type 0 where
  pub k : ℕ
  pub at : IsStepOf t job k
  pub faulted : at.step.reply ≡ reply.Fault

-- the create of a path faulted, so that the job made no file
pub record HasMadeNone (t : Trace) (job : ℕ) (p : Path) : Type 0 where
  pub k : ℕ
  pub at : IsStepOf t job k
  pub asked : at.step.asked ≡ create p
  pub faulted : at.step.reply ≡ reply.Fault

-- a delivery that faulted made no file in tmp, or has last unlinked its name there, whatever the reply was
abbrev pub IsUndone : Trace → ℕ → Call → Type 0
IsUndone t job (call.Deliver folder u body chunk) =
    HasMadeNone t job (path folder Tmp u) ⊎ HasUnlinked t job (path folder Tmp u) answer.Fault
IsUndone t job c = Unit {0}

-- a delivery that is done has last unlinked its name in tmp, whatever the reply was
abbrev pub IsDelivered : Trace → ℕ → Call → Type 0
IsDelivered t job (call.Deliver folder u body chunk) = HasUnlinked t job (path folder Tmp u) answer.Delivered
IsDelivered t job c = Unit {0}

-- whether a reply is Ok
abbrev pub is_ok : DirReply → Bool
is_ok reply.Ok = true
is_ok r = false

-- whether a row's file has not been used for 36 hours, by a clock. A clock that is before the stamp counts as no time
abbrev pub is_unused : ℕ → Row → Bool
is_unused own row = nat_le 129600 (own - row.stamp)

-- What a clean of a folder did that counted n files: it listed tmp, and then unlinked each name whose file was not used for 36 hours by
-- its own clock at that listing, once and in order; each of them was found or not, and it counts those that were.
pub record HasCleaned (t : Trace) (job folder n : ℕ) : Type 0 where
  pub first : Begins t job
  pub look : Step
  pub unlinks : List Step
  pub steps : filter (λ x. x.job == job) t.steps ≡ look ∷ unlinks
  pub listed : look.asked ≡ list folder Tmp
  pub ok : look.reply ≡ reply.Ok
  pub names : map (λ x. x.asked) unlinks
      ≡ map (λ row. unlink (path folder Tmp row.name)) (filter (is_unused look.at.own) (rows_of (state t first.k) folder Tmp))
  pub replies : All (λ x. (x.reply ≡ reply.Ok) ⊎ (x.reply ≡ reply.NotFound)) unlinks
  pub count : n ≡ count_by (λ x. is_ok x.reply) unlinks

-- the call is a clean, which counted n files so
abbrev pub IsCleaned : Trace → ℕ → Call → ℕ → Type 0
IsCleaned t job (call.Clean folder) n = HasCleaned t job folder n
IsCleaned t job c n = ⊥

-- What each answer says of its job and its call. Those that say that the call was done are spoken of by its effect.
abbrev pub Says : Trace → ℕ → Call → Answer → Type 0
Says t job c answer.NotThere = IsOfSpan t job c answer.NotThere
Says t job c answer.NotTrashed = IsOfSpan t job c answer.NotTrashed
Says t job c answer.OtherInfo = IsOfSpan t job c answer.OtherInfo
Says t job c answer.Lost = IsLost t job c
Says t job c answer.TimedOut = IsTimedOut t job c
Says t job c answer.TmpGone = IsTmpGone t job c
Says t job c answer.Fault = IsFaulted t job × IsUndone t job c
Says t job c answer.NameTaken = ⊥
Says t job c (answer.Cleaned n) = IsCleaned t job c n
Says t job c answer.Delivered = IsDelivered t job c
Says t job c a = Unit {0}
