-- The theorem: each call takes effect at one step, whatever steps of other jobs come between its own, and whichever directory calls fault.
use Rattle.std.specs.Prelude.{ℕ, ◌≡◌, ◌+◌, ◌-◌, ◌≤◌, ◌<◌, ◌⊎◌, List, Option, Some, None, Bool, true, false, length, slice_get, is_some}
use Rattle.std.specs.FinMap as finmap
use Rattle.md_dirs.specs.State.{State, IsSound, file_at}
use Rattle.md_dirs.specs.Path.{path_of as path}
use Rattle.md_dirs.specs.Rows.{rows_of}
use Rattle.md_dirs.specs.declared.paths.Path.{Path}
use Rattle.md_dirs.specs.declared.paths.Place.TheVariants.{Tmp}
use Rattle.md_dirs.specs.declared.rows.Row.{Row}
use Rattle.md_jobs.specs.declared.answer.Answer.{Answer}
use Rattle.md_jobs.specs.declared.answer.Answer.TheVariants as answer
use Rattle.md_jobs.specs.declared.call.Call.{Call}
use Rattle.md_jobs.specs.declared.call.Call.TheVariants as call
use Rattle.md_jobs.specs.declared.effect.Effect.{Effect}
use Rattle.md_jobs.specs.declared.step.DirReply.{DirReply}
use Rattle.md_jobs.specs.declared.step.DirReply.TheVariants as reply
use Rattle.md_core.specs.Mailbox.{Entry, mailbox_of, HasOnePath}
use Rattle.md_used.specs.Paths.{is_tmp, is_message}
use Rattle.md_core.specs.Alone.{alone}
use Rattle.md_core.specs.History.{names_of, names_after, IsLegal}
use Rattle.md_jobs.specs.Asked.{Asked, link, rename, unlink, list}
use Rattle.md_core.specs.Trace.{Trace, Step, IsStepOf, IsAnswered, call_at, step_at, state, box, effects, file_in, steps_of}
use Rattle.md_core.specs.Answering.{Says}
use Rattle.md_core.specs.Bounds.{most_steps}

-- answers that say that the call took effect
abbrev pub is_success : Answer → Bool
is_success answer.Delivered = true
is_success (answer.Flags s) = true
is_success answer.Moved = true
is_success answer.Expunged = true
is_success answer.Copied = true
is_success a = false

-- Whether a step is where its call takes effect: a link of Deliver or Copy, a rename of Seen, Flag or Move, an unlink of Expunge that is
-- done; or the look-up of a Flag that answers, since the flags are as they should be.
abbrev pub is_effect_at : Call → Asked → DirReply → Option Answer → Bool
is_effect_at (call.Deliver f u body chunk) (link old new) reply.Ok a = true
is_effect_at (call.Seen f u flags tries) (rename old new) reply.Ok a = true
is_effect_at (call.Flag f u add remove tries) (rename old new) reply.Ok a = true
is_effect_at (call.Flag f u add remove tries) (list folder place) reply.Ok (Some (answer.Flags s)) = true
is_effect_at (call.Move f u to tries) (rename old new) reply.Ok a = true
is_effect_at (call.Expunge f u tries) (unlink p) reply.Ok a = true
is_effect_at (call.Copy f u to fresh tries) (link old new) reply.Ok a = true
is_effect_at call asked r a = false

-- Step k is where a call takes effect: alone on the mailbox before that step, the call gives this answer and the mailbox after it.
pub record IsEffectOf (t : Trace) (job : ℕ) (c : Call) (a : Answer) (k : ℕ) : Type 0 where
  pub own : IsStepOf t job k
  pub effect : Effect
  pub is : own.step.effect ≡ Some effect
  pub of : effect.job ≡ job
  pub answers : effect.answer ≡ a
  pub as_alone : alone c (box t k) ≡ record { answer = a; after = box t (k + 1) }

-- One step of the job is its effect, and no other step is.
pub record TakesEffect (t : Trace) (job : ℕ) (c : Call) (a : Answer) : Type 0 where
  pub k : ℕ
  pub effect : IsEffectOf t job c a k
  pub only : (i : ℕ) (own : IsStepOf t job i) → is_some own.step.effect ≡ true → i ≡ k

-- a call answered with success has taken effect with that answer, and one with any other answer has not
pub record Acts (t : Trace) (job : ℕ) (c : Call) (a : Answer) : Type 0 where
  pub done : is_success a ≡ true → TakesEffect t job c a
  pub undone : is_success a ≡ false → (i : ℕ) (own : IsStepOf t job i) → own.step.effect ≡ None

-- the call is a delivery
abbrev pub IsDelivery : Call → Type 0
IsDelivery (call.Deliver folder u body chunk) = Unit {0}
IsDelivery c = ⊥

-- Each effect is that of its job's call, and the job has no other. Only a delivery may have one before its answer.
pub record IsOwnEffect (t : Trace) (k : ℕ) (x : Step) (e : Effect) : Type 0 where
  pub call : Call
  pub of : call_at t.calls x.job ≡ Some call
  pub effect : TakesEffect t x.job call e.answer
  pub early : x.answer ≡ None → IsDelivery call

-- no path names another file than before: nothing is overwritten
abbrev pub NoneOverwritten : State → State → Type 0
NoneOverwritten s s' = (p : Path) (m n : ℕ) → file_at s p ≡ Some m → file_at s' p ≡ Some n → n ≡ m

-- the call delivers these bytes under the name
abbrev pub IsDeliveryOf : List ℕ → List ℕ → Call → Type 0
IsDeliveryOf u bytes (call.Deliver folder unique body chunk) = (unique ≡ u) × (body ≡ bytes)
IsDeliveryOf u bytes call = ⊥

-- the call copies the message of a unique name to this name
abbrev pub IsCopyTo : List ℕ → List ℕ → Call → Type 0
IsCopyTo unique u (call.Copy folder v to fresh tries) = (v ≡ unique) × (fresh ≡ u)
IsCopyTo unique u call = ⊥

-- Step i was the effect of a copy to the name, of a message that had these bytes then.
pub record IsCopied (t : Trace) (k : ℕ) (u bytes : List ℕ) : Type 0 where
  pub i : ℕ
  pub before : i < k
  pub step : Step
  pub at : step_at t i ≡ Some step
  pub is_effect : is_some step.effect ≡ true
  pub call : Call
  pub of : call_at t.calls step.job ≡ Some call
  pub unique : List ℕ
  pub copies : IsCopyTo unique u call
  pub source : Entry
  pub had : finmap.get (box t i) unique ≡ Some source
  pub same : source.bytes ≡ bytes

-- The bytes are whole at moment k: the body of the delivery of the name, or what the message had at the beginning, or what the message
-- had that was copied to the name.
abbrev pub IsWhole : Trace → ℕ → List ℕ → List ℕ → Type 0
IsWhole t k u bytes =
    ((i : ℕ) × (call : Call) × (slice_get t.calls i ≡ Some call) × IsDeliveryOf u bytes call)
    ⊎ (((e : Entry) × (finmap.get (mailbox_of t.image) u ≡ Some e) × (e.bytes ≡ bytes)) ⊎ IsCopied t k u bytes)

-- a path is that of a delivery in tmp
abbrev pub IsTmpOf : Path → Call → Type 0
IsTmpOf p (call.Deliver folder u body chunk) = p ≡ path folder Tmp u
IsTmpOf p c = ⊥

-- Before step k the job listed tmp of a folder, and a name there had a file that was not used for 36 hours, by the clock of the job.
pub record HasSeenOld (t : Trace) (job k folder : ℕ) (name : List ℕ) : Type 0 where
  pub i : ℕ
  pub before : i < k
  pub look : IsStepOf t job i
  pub listed : look.step.asked ≡ list folder Tmp
  pub ok : look.step.reply ≡ reply.Ok
  pub at : ℕ
  pub row : Row
  pub there : slice_get (rows_of (state t i) folder Tmp) at ≡ Some row
  pub named : row.name ≡ name
  pub old : 129600 ≤ look.step.at.own - row.stamp

-- Step k may change a path of tmp: it is a step of that path's own delivery; or a clean unlinks a name whose file it saw to be old.
abbrev pub MayChange : Trace → ℕ → Step → Path → Call → Type 0
MayChange t k x p (call.Clean folder) = (x.asked ≡ unlink p) × (p.folder ≡ folder) × HasSeenOld t x.job k folder p.name
MayChange t k x p c = IsTmpOf p c

-- what a step may do to a path of tmp: nothing, or what it may change
abbrev pub KeepsTmp : Trace → ℕ → Step → Path → Type 0
KeepsTmp t k x p = (file_in (state t (k + 1)) p ≡ file_in (state t k) p)
    ⊎ ((c : Call) × (call_at t.calls x.job ≡ Some c) × MayChange t k x p c)

-- The interleaving theorem, of a trace.
pub record Interleaves (t : Trace) : Type 0 where
  -- the headline: success is one step of the job's own, at which the call answers as it would alone; a job with any other answer has no
  -- effect
  pub acts : (job : ℕ) (c : Call) (a : Answer) → call_at t.calls job ≡ Some c → IsAnswered t job a → Acts t job c a
  -- each effect is the one of its job, answered by then or not
  pub own : (k : ℕ) (x : Step) (e : Effect) → step_at t k ≡ Some x → x.effect ≡ Some e → IsOwnEffect t k x e
  -- a step is an effect exactly where the call's own directory call is done
  pub placed : (k : ℕ) (x : Step) (c : Call) → step_at t k ≡ Some x → call_at t.calls x.job ≡ Some c
      → is_some x.effect ≡ is_effect_at c x.asked x.reply x.answer
  -- all other steps leave the mailbox as it was
  pub quiet : (k : ℕ) (x : Step) → step_at t k ≡ Some x → x.effect ≡ None → box t (k + 1) ≡ box t k
  -- the effects are a legal history, and at every moment they give the names of the mailbox
  pub legal : IsLegal t.image.folders (names_of (mailbox_of t.image)) (effects t (length t.steps))
  pub names : (k : ℕ) → names_after (names_of (mailbox_of t.image)) (effects t k) ≡ names_of (box t k)
  -- from one moment to the next no path comes to name another file
  pub none_overwritten : (k : ℕ) → NoneOverwritten (state t k) (state t (k + 1))
  -- the directories are sound, and each unique name has one path in all new and cur
  pub sound : (k : ℕ) → IsSound (state t k)
  pub one_path : (k : ℕ) → HasOnePath (state t k)
  -- each message is whole
  pub whole : (k : ℕ) (u : List ℕ) (e : Entry) → finmap.get (box t k) u ≡ Some e → IsWhole t k u e.bytes
  -- files in new and cur that are no messages keep their bytes and their stamps
  pub others : (k : ℕ) (p : Path) → is_tmp p.place ≡ false → is_message p ≡ false → file_in (state t k) p ≡ file_in t.image p
  -- a file in tmp is changed by its own delivery, or taken away by a clean that saw it to be old
  pub in_tmp : (k : ℕ) (x : Step) (p : Path) → step_at t k ≡ Some x → is_tmp p.place ≡ true → KeepsTmp t k x p
  -- an answer that came without an effect says what happened, and Delivered how the delivery ended
  pub says : (job : ℕ) (c : Call) (a : Answer) → call_at t.calls job ≡ Some c → IsAnswered t job a → Says t job c a
  -- no job takes more steps than its call may, and one that has taken so many has its answer
  pub bounded : (job : ℕ) (c : Call) → call_at t.calls job ≡ Some c → steps_of t job ≤ most_steps t job c
  pub ends : (job : ℕ) (c : Call) → call_at t.calls job ≡ Some c → most_steps t job c ≤ steps_of t job → (a : Answer) × IsAnswered t job a
