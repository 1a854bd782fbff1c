-- A delivery ends by the unlink of its name in tmp, whether it is done, out of time or faulted, but where its create faulted or its file
-- in tmp is gone.
use Rattle.md_core.proofs.Machines.Errand.Table.Rows.{no-delivery}
use Rattle.std.proofs.Common.{ℕ, ◌≡◌, ◌∙◌, ◌⊎◌, inl, inr, List, Some, Bool, true, false, cond, nat_lt, length, refl, ap, subst}
use Rattle.md_core.proofs.Values.{State, Path, Tmp, Row, Call, Answer, DirReply, Moment, Task, Deliver, Errand, Clean, path_of as path, Delivery, Stage, Start, Writing, Machine, answered, job_at, turn_of, Turn, create, unlink, Run, machine_at, jobs_of, call_at, IsRun, IsFaulted, IsDelivered, IsUndone, trace_of}
use Rattle.md_jobs.specs.declared.answer.Answer.TheVariants as answer
use Rattle.md_jobs.specs.declared.call.Call.TheVariants as call
use Rattle.md_jobs.specs.declared.step.DirReply.TheVariants as reply
use Rattle.md_jobs.specs.Machines.Deliver.{append_turn, link_turn, unlink_turn, stage_turn, is_in_time}
use Rattle.md_core.proofs.Induction.Good.{DeliveryFits, TaskFits}
use Rattle.md_core.proofs.Answers.LastStep.{LastStep, last-step, is-step, turn_by, reply_in}
use Rattle.md_core.proofs.Answers.Moments.{its-fits, at}
use Rattle.md_core.proofs.Answers.Turns.OfDeliver.{DeliveryTells}
use Rattle.md_core.proofs.Answers.OfFault.{last-tells, says-fault}
use Rattle.md_core.proofs.Answers.Turns.Told.{Told}

-- the answers that a delivery gives by that unlink alone
abbrev pub IsOfUnlink : Answer → Type 0
IsOfUnlink answer.Delivered = Unit {0}
IsOfUnlink answer.TimedOut = Unit {0}
IsOfUnlink a = ⊥

-- an answer is none that is not of the unlink
differs : (a b : Answer) → IsOfUnlink a → (IsOfUnlink b → ⊥) → Some b ≡ Some a → ⊥
differs a b its not is = let e : a ≡ b = cc in not (subst IsOfUnlink e its)

module _ (n : ℕ) (d : Delivery) (rows : List Row) (a : Answer) (its : IsOfUnlink a) where
  -- where a turn gives such an answer it is that unlink
  abbrev Unlinks : Turn Delivery → DirReply → Type 0
  Unlinks turn rep = (turn.follows rep rows).answer ≡ Some a → turn.asked ≡ unlink d.tmp

  append-unlinks : (start i : ℕ) (rep : DirReply) → Unlinks (append_turn d start i) rep
  append-unlinks start i reply.Exists is = absurd (differs a answer.Fault its (λ h. h) is)
  append-unlinks start i reply.NotFound is = absurd (differs a answer.TmpGone its (λ h. h) is)
  append-unlinks start i other is = cc

  link-unlinks : (rep : DirReply) → Unlinks (link_turn n d) rep
  link-unlinks reply.NotFound is = absurd (differs a answer.TmpGone its (λ h. h) is)
  link-unlinks other is = cc

  writing-unlinks : (b more : Bool) (start i : ℕ) (rep : DirReply) →
      Unlinks (cond b (cond more (append_turn d start i) (link_turn n d)) (unlink_turn d answer.TimedOut)) rep
  writing-unlinks true true start i rep = append-unlinks start i rep
  writing-unlinks true false start i rep = link-unlinks rep
  writing-unlinks false more start i rep = λ is. refl

  stage-unlinks : (at : Moment) (stage : Stage) (rep : DirReply) → Unlinks (stage_turn n d at stage) rep
  stage-unlinks at Start reply.Ok is = cc
  stage-unlinks at Start reply.Exists is = absurd (differs a answer.NameTaken its (λ h. h) is)
  stage-unlinks at Start reply.NotFound is = absurd (differs a answer.Fault its (λ h. h) is)
  stage-unlinks at Start reply.Fault is = absurd (differs a answer.Fault its (λ h. h) is)
  stage-unlinks at (Writing start i) rep is = writing-unlinks (is_in_time start at.own) (nat_lt i (length d.body)) start i rep is
  stage-unlinks at other rep is = refl

module _ (n : ℕ) (d : Delivery) (rows : List Row) where
  -- where a turn gives Fault it is a create that faulted, or that unlink
  abbrev Ends : Turn Delivery → DirReply → Type 0
  Ends turn rep = ((turn.asked ≡ create d.tmp) × (rep ≡ reply.Fault)) ⊎ (turn.asked ≡ unlink d.tmp)

  abbrev Undoes : Turn Delivery → DirReply → Type 0
  Undoes turn rep = (turn.follows rep rows).answer ≡ Some answer.Fault → rep ≡ reply.Fault → Ends turn rep

  append-undoes : (start i : ℕ) (rep : DirReply) → Undoes (append_turn d start i) rep
  append-undoes start i reply.Ok is told = cc
  append-undoes start i other is told = cc

  link-undoes : (rep : DirReply) → Undoes (link_turn n d) rep
  link-undoes reply.Ok is told = cc
  link-undoes other is told = cc

  writing-undoes : (b more : Bool) (start i : ℕ) (rep : DirReply) →
      Undoes (cond b (cond more (append_turn d start i) (link_turn n d)) (unlink_turn d answer.TimedOut)) rep
  writing-undoes true true start i rep = append-undoes start i rep
  writing-undoes true false start i rep = link-undoes rep
  writing-undoes false more start i rep = λ is told. inr refl

  stage-undoes : (at : Moment) (stage : Stage) (rep : DirReply) → ((stage_turn n d at stage).follows rep rows).answer ≡ Some answer.Fault →
      DeliveryTells stage rep answer.Fault → Ends (stage_turn n d at stage) rep
  stage-undoes at Start rep is told = inl (refl, told)
  stage-undoes at (Writing start i) rep is told =
      writing-undoes (is_in_time start at.own) (nat_lt i (length d.body)) start i rep is told
  stage-undoes at other rep is told = inr refl

module _ (folder : ℕ) (u body : List ℕ) (chunk : ℕ) (s : State) where
  abbrev asked : Call
  asked = call.Deliver folder u body chunk

  -- the path of its file
  abbrev tmp : Path
  tmp = path folder Tmp u

  tmp-is : (d : Delivery) → DeliveryFits s asked d → d.tmp ≡ tmp
  tmp-is d fits =
      let of = fits.of in
      let same_folder : d.tmp.folder ≡ folder = cc in
      let same_name : d.tmp.name ≡ u = cc in
      λ i. record { folder = same_folder i; place = fits.in_tmp i; name = same_name i }

  -- its task is a delivery
  by-delivery : (P : Task → Type 0) → ((d : Delivery) → DeliveryFits s asked d → P (Deliver d)) → (task : Task) → TaskFits s asked task → P task
  by-delivery P delivers (Deliver d) fits = delivers d fits
  by-delivery P delivers (Errand e) fits = absurd (no-delivery e.purpose e.folder e.unique fits.tries _ _ _ _ fits.of)
  by-delivery P delivers (Clean c) fits = cc

  module _ (n : ℕ) (at : Moment) (rep : DirReply) (rows : List Row) where
    abbrev Gives : Task → Answer → Type 0
    Gives task a = ((turn_of n task at).follows rep rows).answer ≡ Some a

    task-unlinks : (a : Answer) → IsOfUnlink a → (task : Task) → TaskFits s asked task → Gives task a →
        (turn_of n task at).asked ≡ unlink tmp
    task-unlinks a its = by-delivery (λ task. Gives task a → (turn_of n task at).asked ≡ unlink tmp)
        (λ d fits is. stage-unlinks n d rows a its at d.stage rep is ∙ ap unlink (tmp-is d fits))

    abbrev EndsTask : Task → Type 0
    EndsTask task = (((turn_of n task at).asked ≡ create tmp) × (rep ≡ reply.Fault)) ⊎ ((turn_of n task at).asked ≡ unlink tmp)

    ends-task : (d : Delivery) → d.tmp ≡ tmp → Ends n d rows (stage_turn n d at d.stage) rep → EndsTask (Deliver d)
    ends-task d same (inl h) = inl (h.0 ∙ ap create same, h.1)
    ends-task d same (inr h) = inr (h ∙ ap unlink same)

    task-undoes : (task : Task) → TaskFits s asked task → Gives task answer.Fault → Told s asked task rep answer.Fault → EndsTask task
    task-undoes = by-delivery (λ task. Gives task answer.Fault → Told s asked task rep answer.Fault → EndsTask task)
        (λ d fits is told. ends-task d (tmp-is d fits) (stage-undoes n d rows at d.stage rep is told))

module _ (r : Run) (run : IsRun r) (job : ℕ) where
  module _ (folder : ℕ) (u body : List ℕ) (chunk : ℕ) where
    abbrev delivery : Call
    delivery = call.Deliver folder u body chunk

    module _ (a : Answer) (its : IsOfUnlink a) (of : call_at r.calls job ≡ Some delivery) (last : LastStep r job a) where
      abbrev m : Machine
      m = machine_at r last.k

      pub asks-unlink : (turn_by m last.turn.event last.turn.task).asked ≡ unlink (path folder Tmp u)
      asks-unlink =
          let t = last.turn in
          let fits : TaskFits m.dirs delivery t.task = its-fits r run last.k job delivery t.task of t.there in
          task-unlinks folder u body chunk m.dirs t.event.event.job (at r last.k job t) (reply_in m t.event t.task) _ a its t.task fits last.answer

    undone : (of : call_at r.calls job ≡ Some delivery) → LastStep r job answer.Fault → IsUndone (trace_of r) job delivery
    undone of last =
        let k = last.k in
        let t = last.turn in
        let fits : TaskFits (machine_at r k).dirs delivery t.task = its-fits r run k job delivery t.task of t.there in
        let told = last-tells r run job delivery of answer.Fault last in
        let rep = reply_in (machine_at r k) t.event t.task in
        elim (task-undoes folder u body chunk (machine_at r k).dirs t.event.event.job (at r k job t) rep _ t.task fits last.answer told) [
          | inl h ↦ inl (record { k = k; at = is-step r run k job t; asked = h.0; faulted = h.1 })
          | inr h ↦ inr (record { k = k; last = is-step r run k job t; asked = h; answer = last.answer })
        ]

  pub is-delivered : (c : Call) → call_at r.calls job ≡ Some c → job_at (jobs_of r) job ≡ Some (answered answer.Delivered) →
      IsDelivered (trace_of r) job c
  is-delivered (call.Deliver folder u body chunk) of is =
      let last = last-step r run job answer.Delivered is in
      let asked = asks-unlink folder u body chunk answer.Delivered tt of last in
      record { k = last.k; last = is-step r run last.k job last.turn; asked = asked; answer = last.answer }
  is-delivered c of is = tt

  pub is-undone : (c : Call) → call_at r.calls job ≡ Some c → job_at (jobs_of r) job ≡ Some (answered answer.Fault) → IsUndone (trace_of r) job c
  is-undone (call.Deliver folder u body chunk) of is = undone folder u body chunk of (last-step r run job answer.Fault is)
  is-undone c of is = tt

  pub is-faulted : (c : Call) → call_at r.calls job ≡ Some c → job_at (jobs_of r) job ≡ Some (answered answer.Fault) → IsFaulted (trace_of r) job
  is-faulted c of is = says-fault r run job c of answer.Fault (last-step r run job answer.Fault is) refl
