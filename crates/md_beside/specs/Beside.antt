-- The words of the law of our jobs beside other programs (Jobs): which stories there are, what programs owe one another, how a job acts,
-- and what its answer says.
use Rattle.std.specs.Prelude.{ℕ, suc, ◌+◌, ◌-◌, ◌≡◌, ◌≢◌, ◌≤◌, ◌<◌, ◌⊎◌, List, ◌∷◌, Some, None, true, false, map, filter, take, count_by, slice_get, is_some, if◌then◌else◌}
use Rattle.std.specs.List.{All}
use Rattle.md_dirs.specs.Path.{path_of as path}
use Rattle.md_dirs.specs.Rows.{rows_of}
use Rattle.md_dirs.specs.State.{State, IsSound, file_at, file_by}
use Rattle.md_dirs.specs.declared.paths.Path.{Path}
use Rattle.md_dirs.specs.declared.paths.Place.TheVariants.{Tmp}
use Rattle.md_jobs.specs.Asked.{list, unlink, reply_by, ask_of}
use Rattle.md_jobs.specs.declared.answer.Answer.{Answer}
use Rattle.md_jobs.specs.declared.answer.Answer.TheVariants as answer
use Rattle.md_jobs.specs.declared.call.Call.{Call}
use Rattle.md_jobs.specs.declared.call.Call.TheVariants as call
use Rattle.md_jobs.specs.declared.effect.Effect.{Effect}
use Rattle.md_jobs.specs.declared.step.DirReply.{DirReply}
use Rattle.md_jobs.specs.declared.step.DirReply.TheVariants as reply
use Rattle.md_name.specs.Names.{unique_of}
use Rattle.md_core.specs.Mailbox.{Entry, HasOnePath}
use Rattle.md_used.specs.Paths.{is_message}
use Rattle.md_core.specs.Alone.{alone}
use Rattle.md_core.specs.Answering.{is_ok, is_unused}
use Rattle.md_core.specs.Accepting.{IsAccepted, MakesMessage, name_used}
use Rattle.md_core.specs.Interleaving.{is_success, IsDeliveryOf}
use Rattle.md_core.specs.Trace.{call_at}
use Rattle.md_beside.specs.Story.{Story, Step, ours, another, Did, asked, wrote, flushed, step_at, state, box, is_by, IsTurn}

-- ---- the premises

-- where a call is refused, at the directories of its moment
abbrev pub reply_due : State → Did → ℕ → DirReply
reply_due s (asked a) now = reply_by ((ask_of a now).refusal s)
reply_due s (wrote p bytes) now = if is_some (file_at s p) then reply.Ok else reply.NotFound
reply_due s (flushed p) now = if is_some (file_at s p) then reply.Ok else reply.NotFound

-- Which stories there are: a call takes effect at one moment, is answered as the directories answer it, or fails and then did nothing but
-- that a write may have left bytes; the clock doesn't go back; and each step of a job of ours is a turn of its machine.
pub record IsStory (t : Story) : Type 0 where
  pub sound : IsSound t.image
  pub one_path : HasOnePath t.image
  pub accepted : (i : ℕ) (c : Call) → slice_get t.calls i ≡ Some c → IsAccepted t.image (take i t.calls) c
  pub replied : (k : ℕ) (x : Step) → step_at t k ≡ Some x → (x.reply ≡ reply_due (state t k) x.did x.at.clock) ⊎ (x.reply ≡ reply.Fault)
  pub stamped : (p : Path) (n : ℕ) (file : Rattle.md_dirs.specs.declared.paths.File.File) → file_at t.image p ≡ Some n
      → file_by t.image.files n ≡ Some file → file.stamp ≤ t.clock
  pub begins : (x : Step) → step_at t 0 ≡ Some x → t.clock ≤ x.at.clock
  pub goes_on : (k : ℕ) (x y : Step) → step_at t k ≡ Some x → step_at t (suc k) ≡ Some y → x.at.clock ≤ y.at.clock
  pub turns : (k job : ℕ) (x : Step) → step_at t k ≡ Some x → x.who ≡ ours job → IsTurn t k x job
  -- an actor of the log is one job of ours, or a program that is none
  pub apart : (i j : ℕ) → t.actor i ≡ t.actor j → i ≡ j
  pub foreign : (k job : ℕ) (x : Step) (actor : List ℕ) → step_at t k ≡ Some x → x.who ≡ another actor → actor ≢ t.actor job

-- a step of another program brings a name about: a path of the name comes to be for a file that had none
abbrev pub BringsAbout : Story → ℕ → List ℕ → Type 0
BringsAbout t k u = (p : Path) × (n : ℕ) × (name_used p ≡ u) × (file_at (state t (suc k)) p ≡ Some n)
    × ((q : Path) → name_used q ≡ u → file_at (state t k) q ≡ Some n → ⊥)

-- the job's own step k
pub record IsStepOf (t : Story) (job k : ℕ) : Type 0 where
  pub step : Step
  pub at : step_at t k ≡ Some step
  pub own : step.who ≡ ours job

-- the job takes a step
abbrev pub IsAtWork : Story → ℕ → Type 0
IsAtWork t job = (k : ℕ) × IsStepOf t job k

-- The names that our deliveries and copies make are ours: nobody else brings one about. `unique` makes such names.
abbrev pub AreOurs : Story → Type 0
AreOurs t = (k job : ℕ) (x : Step) (actor : List ℕ) (c : Call) (u : List ℕ) → step_at t k ≡ Some x → x.who ≡ another actor
    → call_at t.calls job ≡ Some c → IsAtWork t job → MakesMessage c u → BringsAbout t k u → ⊥

-- at every step the clock of the job and that of the log are no more than so many seconds apart
abbrev pub AreApart : Story → ℕ → Type 0
AreApart t seconds = (k : ℕ) (x : Step) → step_at t k ≡ Some x → (x.at.own ≤ x.at.clock + seconds) × (x.at.clock ≤ x.at.own + seconds)

-- ---- the promises

pub record IsAnswered (t : Story) (job : ℕ) (a : Answer) : Type 0 where
  pub k : ℕ
  pub last : IsStepOf t job k
  pub answer : last.step.answer ≡ Some a

-- step k is where the call takes effect: alone on the mailbox before it, the call gives this answer and the mailbox after it
pub record IsEffectOf (t : Story) (job : ℕ) (c : Call) (a : Answer) (k : ℕ) : Type 0 where
  pub own : IsStepOf t job k
  pub effect : Effect
  pub is : own.step.effect ≡ Some effect
  pub answers : effect.answer ≡ a
  pub as_alone : alone c (box t k) ≡ record { answer = a; after = box t (suc k) }

pub record TakesEffect (t : Story) (job : ℕ) (c : Call) (a : Answer) : Type 0 where
  pub k : ℕ
  pub effect : IsEffectOf t job c a k
  pub only : (i : ℕ) (own : IsStepOf t job i) → is_some own.step.effect ≡ true → i ≡ k

-- success is one step of the job's own, at which the call does what it does alone; a job with any other answer has no effect
pub record Acts (t : Story) (job : ℕ) (c : Call) (a : Answer) : Type 0 where
  pub done : is_success a ≡ true → TakesEffect t job c a
  pub undone : is_success a ≡ false → (i : ℕ) (own : IsStepOf t job i) → own.step.effect ≡ None

-- The span of a job goes from the moment before its first step to the moment after its last.
pub record IsInSpan (t : Story) (job k : ℕ) : Type 0 where
  pub from : ℕ
  pub to : ℕ
  pub begun : IsStepOf t job from
  pub goes_on : IsStepOf t job to
  pub after : from ≤ k
  pub before : k ≤ suc to

-- at some moment of the job's span the call, made alone, would be answered so
abbrev pub IsOfSpan : Story → ℕ → Call → Answer → Type 0
IsOfSpan t job c a = (k : ℕ) × IsInSpan t job k × ((alone c (box t k)).answer ≡ a)

-- a directory call of the job faulted
abbrev pub IsFaulted : Story → ℕ → Type 0
IsFaulted t job = (k : ℕ) × (own : IsStepOf t job k) × (own.step.reply ≡ reply.Fault)

-- Step k of another, in the span of the job, took a message of the unique name away from a path.
pub record IsTakenAt (t : Story) (job : ℕ) (u : List ℕ) (k : ℕ) : Type 0 where
  pub step : Step
  pub at : step_at t k ≡ Some step
  pub by_another : step.who ≢ ours job
  pub path : Path
  pub message : is_message path ≡ true
  pub unique : unique_of path.name ≡ u
  pub was : file_at (state t k) path ≢ None
  pub gone : file_at (state t (suc k)) path ≡ None
  pub in_span : IsInSpan t job k

-- So many steps did, one after the other.
pub record IsTakenAway (t : Story) (job : ℕ) (u : List ℕ) (times : ℕ) : Type 0 where
  pub step : ℕ → ℕ
  pub taken : (i : ℕ) → i < times → IsTakenAt t job u (step i)
  pub rise : (i j : ℕ) → i < j → j < times → step i < step j

-- an errand is lost whose message others took away once for each of its tries
abbrev pub IsLost : Story → ℕ → Call → Type 0
IsLost t job (call.Seen folder u flags tries) = IsTakenAway t job u tries
IsLost t job (call.Flag folder u add remove tries) = IsTakenAway t job u tries
IsLost t job (call.Move folder u to tries) = IsTakenAway t job u tries
IsLost t job (call.Expunge folder u tries) = IsTakenAway t job u tries
IsLost t job (call.Copy folder u to fresh tries) = IsTakenAway t job u tries
IsLost t job c = ⊥

-- Step k of another, in the span of a delivery, took a path of tmp of its name away.
pub record IsTmpTaken (t : Story) (job : ℕ) (u : List ℕ) (k : ℕ) : Type 0 where
  pub step : Step
  pub at : step_at t k ≡ Some step
  pub by_another : step.who ≢ ours job
  pub path : Path
  pub in_tmp : path.place ≡ Tmp
  pub named : path.name ≡ u
  pub was : file_at (state t k) path ≢ None
  pub gone : file_at (state t (suc k)) path ≡ None
  pub in_span : IsInSpan t job k

-- the file of a delivery in tmp was gone
abbrev pub IsTmpGone : Story → ℕ → Call → Type 0
IsTmpGone t job (call.Deliver folder u body chunk) = (k : ℕ) × IsTmpTaken t job u k
IsTmpGone t job c = ⊥

-- by its own clock, a step of a delivery's own came 24 hours or more after another
abbrev pub IsTimedOut : Story → ℕ → Call → Type 0
IsTimedOut t job (call.Deliver folder u body chunk) = (i j : ℕ) × (first : IsStepOf t job i) × (last : IsStepOf t job j) × (i < j)
    × (86400 ≤ last.step.at.own - first.step.at.own)
IsTimedOut t job c = ⊥

-- the call takes old files of tmp away, and counts them
abbrev pub IsClean : Call → Type 0
IsClean (call.Clean folder) = Unit {0}
IsClean c = ⊥

-- What a clean of a folder did that counted n files: it listed tmp, and then unlinked each name whose file was not used for 36 hours by
-- its own clock at that listing, once and in order, and took no other step. Each name was there, whatever file it had by then, or it was
-- gone, and the clean counts those that were there.
pub record HasCleaned (t : Story) (job folder n : ℕ) : Type 0 where
  pub k : ℕ
  pub look : IsStepOf t job k
  pub unlinks : List Step
  pub steps : filter (λ x. is_by job x.who) t.steps ≡ look.step ∷ unlinks
  pub listed : look.step.did ≡ asked (list folder Tmp)
  pub ok : look.step.reply ≡ reply.Ok
  pub names : map (λ x. x.did) unlinks
      ≡ map (λ row. asked (unlink (path folder Tmp row.name))) (filter (is_unused look.step.at.own) (rows_of (state t k) folder Tmp))
  pub replies : All (λ x. (x.reply ≡ reply.Ok) ⊎ (x.reply ≡ reply.NotFound)) unlinks
  pub count : n ≡ count_by (λ x. is_ok x.reply) unlinks

-- the call is a clean, which counted n files so
abbrev pub IsCleaned : Story → ℕ → Call → ℕ → Type 0
IsCleaned t job (call.Clean folder) n = HasCleaned t job folder n
IsCleaned t job c n = ⊥

-- what an answer says that comes without an effect
abbrev pub Says : Story → ℕ → Call → Answer → Type 0
Says t job c answer.NotThere = IsOfSpan t job c answer.NotThere
Says t job c answer.NotTrashed = IsOfSpan t job c answer.NotTrashed
Says t job c answer.OtherInfo = IsOfSpan t job c answer.OtherInfo
Says t job c answer.Lost = IsLost t job c
Says t job c answer.TimedOut = IsTimedOut t job c
Says t job c answer.TmpGone = IsTmpGone t job c
Says t job c answer.Fault = IsFaulted t job
Says t job c answer.NameTaken = ⊥
Says t job c (answer.Cleaned n) = IsCleaned t job c n
Says t job c a = Unit {0}

-- a message of ours has the bytes of the delivery of its name, as long as readers see it
abbrev pub IsWholeOf : Story → ℕ → Call → Type 0
IsWholeOf t k c = (u : List ℕ) (bytes : List ℕ) (e : Entry) → IsDeliveryOf u bytes c → Rattle.std.specs.FinMap.get (box t k) u ≡ Some e
    → e.bytes ≡ bytes
