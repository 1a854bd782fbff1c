-- A job is answered that it faulted only where one of its directory calls did, and never that its name is taken.
use Rattle.md_jobs.specs.Tasks.Errand as errand
use Rattle.md_jobs.specs.Tasks.Errand.{Look, Act}
use Rattle.std.proofs.Common.{ℕ, ◌≡◌, ◌+◌, ◌≤◌, List, Some, None, refl, subst, ◌∙◌, length, arith}
use Rattle.md_core.proofs.Values.{State, Call, DirReply, Task, Deliver, Errand, Clean, Answer, Stage, Start, Writing, Linked, Undo, After, working, job_at, new_job, Run, machine_at, call_at, IsRun, IsFaulted, trace_of, refused_by}
use Rattle.md_jobs.specs.declared.answer.Answer.TheVariants as answer
use Rattle.md_jobs.specs.declared.call.Call.TheVariants as call
use Rattle.md_jobs.specs.declared.step.DirReply.TheVariants as reply
use Rattle.md_core.proofs.Answers.LastStep.{IsTurn, LastStep, reply_in, left_by, is-step, is_within, holds}
use Rattle.md_core.proofs.Answers.Turns.OneMessage.{TriesOn, errand_trying, trying_of, idle, Tells}
use Rattle.md_core.proofs.Answers.Turns.OfDeliver.{DeliveryTells, Undoes}
use Rattle.md_core.proofs.Answers.Turns.OfClean.{CleanTells}
use Rattle.md_core.proofs.Answers.Turns.Told.{at-none, Told, told, IsOfLook}
use Rattle.md_core.proofs.Answers.Turns.EachSays.{TaskSays, UndoesTask, IsClean, turn-says}
use Rattle.md_core.proofs.Machines.Errand.Table.Calls.{IfWorking, new-task, sought}

-- a job that acts on one message goes on as one
module _ (s s' : State) (u : List ℕ) where
  pub errand-tries : (folder : ℕ) (stage : errand.Stage) → TriesOn s s' u (errand_trying folder stage) idle → ⊥
  errand-tries folder (Look place tries) h = h
  errand-tries folder (Act place row tries) h = h

-- a delivery that takes its file away again does so for a fault of its own
abbrev PendingAt : Run → ℕ → Stage → Type 0
PendingAt r job (Undo a) = (refused_by a ≡ answer.Fault) × IsFaulted (trace_of r) job
PendingAt r job other = Unit {0}

abbrev Pending : Run → ℕ → Task → Type 0
Pending r job (Deliver d) = PendingAt r job d.stage
Pending r job other = Unit {0}

-- the same of a job of any call
abbrev IsPending : Run → ℕ → ℕ → Task → Type 0
IsPending r k job task = (c : Call) → call_at r.calls job ≡ Some c → Pending r job task

module _ (r : Run) (job : ℕ) where
  -- a job that has tries takes no file away
  not-idle : (task : Task) → (trying_of task ≡ idle → ⊥) → Pending r job task
  not-idle (Deliver d) tries = absurd (tries refl)
  not-idle other tries = tt

  pending-stage : (stage : Stage) (given : DirReply) → Undoes given stage → (given ≡ reply.Fault → IsFaulted (trace_of r) job) → PendingAt r job stage
  pending-stage (Undo a) given h faulted = (h.0, faulted h.1)
  pending-stage other given h faulted = tt

  pending-delivery : (task : Task) (given : DirReply) → UndoesTask given task → (given ≡ reply.Fault → IsFaulted (trace_of r) job) → Pending r job task
  pending-delivery (Deliver d) given h faulted = pending-stage d.stage given h faulted
  pending-delivery task given h faulted = absurd h

  -- so does a job that goes on
  pending-on : (s s' : State) (asked : Call) (task : Task) (given : DirReply) (after : After Task) →
      TaskSays s s' asked given task after → after.answer ≡ None →
      (given ≡ reply.Fault → IsFaulted (trace_of r) job) → Pending r job after.task
  pending-on s s' asked (Deliver d) given after says none faulted =
      pending-delivery after.task given (at-none after.answer _ _ none says) faulted
  pending-on s s' asked (Errand e) given after says none faulted =
      not-idle after.task
      (λ is. errand-tries s s' (sought asked) e.folder e.stage
      (subst (TriesOn s s' (sought asked) (errand_trying e.folder e.stage)) is (at-none after.answer _ _ none says).tries))
  pending-on s s' asked (Clean c) given after says none faulted = clean after.task (at-none after.answer _ _ none says)
    where
      clean : (task : Task) → IsClean task → Pending r job task
      clean (Clean x) is = tt
      clean task is = absurd is

  pending-new : (c : Call) (task : Task) → new_job c ≡ working task → Pending r job task
  pending-new c task is = new-task (Pending r job) c task (by c) is
    where
      by : (c : Call) → IfWorking (Pending r job) (new_job c)
      by (call.Clean folder) = tt
      by c = tt

module _ (r : Run) (run : IsRun r) where
  faulted-at : (k job : ℕ) (t : IsTurn r k job) → reply_in (machine_at r k) t.event t.task ≡ reply.Fault → IsFaulted (trace_of r) job
  faulted-at k job t is = record { k = k; at = is-step r run k job t; faulted = is }

  pending-at : (k job : ℕ) (task : Task) → k ≤ length r.events → job_at (machine_at r k).jobs job ≡ Some (working task) → IsPending r k job task
  pending-at = holds r run (IsPending r)
      (λ job c task of new c' of'. pending-new r job c task new)
      (λ k job t none was c of. pending-on r job (machine_at r k).dirs (machine_at r (k + 1)).dirs c t.task (reply_in (machine_at r k) t.event t.task)
      (left_by r k job t) (turn-says r run k job c of t) none (faulted-at k job t))
      (λ k job task e at differ there was. was)

  -- what the last turn of a job that faulted tells
  told-fault : (s : State) (asked : Call) (task : Task) (job : ℕ) (given : DirReply) → (given ≡ reply.Fault → IsFaulted (trace_of r) job) →
      Pending r job task → Told s asked task given answer.Fault → IsFaulted (trace_of r) job
  told-fault s asked (Deliver d) job given faulted pending h = by d.stage pending h
    where
      by : (stage : Stage) → PendingAt r job stage → DeliveryTells stage given answer.Fault → IsFaulted (trace_of r) job
      by Start was told = faulted told
      by (Writing start k) was told = faulted told
      by Linked was told = faulted told
      by (Undo a) was told = was.1
  told-fault s asked (Errand e) job given faulted pending h = faulted h
  told-fault s asked (Clean c) job given faulted pending h = faulted h

  told-taken : (s : State) (asked : Call) (task : Task) (job : ℕ) (given : DirReply) → Pending r job task →
      Told s asked task given answer.NameTaken → ⊥
  told-taken s asked (Deliver d) job given pending h = by d.stage pending h
    where
      by : (stage : Stage) → PendingAt r job stage → DeliveryTells stage given answer.NameTaken → ⊥
      by Start was told = told
      by (Writing start k) was told = told
      by Linked was told = told
      by (Undo a) was told = let e : answer.NameTaken ≡ answer.Fault = told ∙ was.0 in cc
  told-taken s asked (Errand e) job given pending h = h
  told-taken s asked (Clean c) job given pending h = h

  -- no delivery and no clean looks for a message
  delivery-looks : (job : ℕ) (given : DirReply) (stage : Stage) (a : Answer) → IsOfLook a → DeliveryTells stage given a →
      PendingAt r job stage → ⊥
  delivery-looks job given (Undo b) a look told was = subst IsOfLook (told ∙ was.0) look
  delivery-looks job given Start answer.NotThere look told was = told
  delivery-looks job given Start answer.NotTrashed look told was = told
  delivery-looks job given Start answer.OtherInfo look told was = told
  delivery-looks job given Start answer.Lost look told was = told
  delivery-looks job given (Writing start k) answer.NotThere look told was = told
  delivery-looks job given (Writing start k) answer.NotTrashed look told was = told
  delivery-looks job given (Writing start k) answer.OtherInfo look told was = told
  delivery-looks job given (Writing start k) answer.Lost look told was = told
  delivery-looks job given Linked answer.NotThere look told was = told
  delivery-looks job given Linked answer.NotTrashed look told was = told
  delivery-looks job given Linked answer.OtherInfo look told was = told
  delivery-looks job given Linked answer.Lost look told was = told
  delivery-looks job given other a look told was = absurd look

  clean-looks : (given : DirReply) (a : Answer) → IsOfLook a → CleanTells given a → ⊥
  clean-looks given answer.NotThere look told = told
  clean-looks given answer.NotTrashed look told = told
  clean-looks given answer.OtherInfo look told = told
  clean-looks given answer.Lost look told = told
  clean-looks given a look told = absurd look

  told-look : (s : State) (asked : Call) (task : Task) (job : ℕ) (given : DirReply) (a : Answer) → IsOfLook a → Pending r job task →
      Told s asked task given a → Tells s asked task given a
  told-look s asked (Deliver d) job given a look pending h = absurd (delivery-looks job given d.stage a look h pending)
  told-look s asked (Errand e) job given a look pending h = h
  told-look s asked (Clean c) job given a look pending h = absurd (clean-looks given a look h)

  -- what the last turn of an answered job tells
  module _ (job : ℕ) (asked : Call) (of : call_at r.calls job ≡ Some asked) (a : Answer) (last : LastStep r job a) where
    abbrev reply-then : DirReply
    reply-then = reply_in (machine_at r last.k) last.turn.event last.turn.task

    pub last-tells : Told (machine_at r last.k).dirs asked last.turn.task reply-then a
    last-tells =
        told (machine_at r last.k).dirs (machine_at r (last.k + 1)).dirs asked last.turn.task reply-then (left_by r last.k job last.turn) a
        (turn-says r run last.k job asked of last.turn) last.answer

    pending-last : Pending r job last.turn.task
    pending-last =
        pending-at last.k job last.turn.task
        (let within = is_within r last.k job last.turn in omega (arith, within)) last.turn.there asked of

    pub says-fault : a ≡ answer.Fault → IsFaulted (trace_of r) job
    says-fault is =
        told-fault (machine_at r last.k).dirs asked last.turn.task job reply-then (faulted-at last.k job last.turn) pending-last
        (subst (Told (machine_at r last.k).dirs asked last.turn.task reply-then) is last-tells)

    pub says-taken : a ≡ answer.NameTaken → ⊥
    says-taken is =
        told-taken (machine_at r last.k).dirs asked last.turn.task job reply-then pending-last
        (subst (Told (machine_at r last.k).dirs asked last.turn.task reply-then) is last-tells)

    pub last-look : IsOfLook a → Tells (machine_at r last.k).dirs asked last.turn.task reply-then a
    last-look look = told-look (machine_at r last.k).dirs asked last.turn.task job reply-then a look pending-last last-tells
