-- What the turn at an event does to a path in tmp whose name the call of a job makes.
use Rattle.std.proofs.Common.{ℕ, ◌≡◌, ◌⊎◌, ◌+◌, inl, inr, Some, None, sym, ap, subst, ◌∙◌}
use Rattle.md_core.proofs.Values.{State, file_at, Tmp, Call, DirReply, Deliver, Path, Delivery, Start, Asked, Run, machine_at, call_at, IsRun, MakesMessage, IsCleanedAway, trace_of}
use Rattle.md_core.proofs.Induction.Good.{TaskFits}
use Rattle.md_core.proofs.Induction.GoodRuns.{all-apart}
use Rattle.md_core.proofs.Answers.LastStep.{IsTurn, turn_by, reply_in, done_in, done-in}
use Rattle.md_core.proofs.Answers.Moments.{its-call, its-fits, sound-now, at, next-dirs, one-maker}
use Rattle.md_core.proofs.Answers.Files.Tmp.{Touches, KeepsPath, MakesPath, touches}
use Rattle.md_core.proofs.Answers.Files.Asking.{asks-fair, creates, unlinks}
use Rattle.md_core.proofs.Traces.Same.{done-step}

-- the job itself made the path, at its start
pub record IsMade (r : Run) (k n job : ℕ) (t : IsTurn r k n) (p : Path) : Type 0 where
  pub own : job ≡ n
  pub delivery : Delivery
  pub task : t.task ≡ Deliver delivery
  pub starts : delivery.stage ≡ Start
  pub makes : MakesPath (machine_at r (k + 1)).dirs p (turn_by (machine_at r k) t.event t.task).asked (at r k n t).clock

module _ (r : Run) (run : IsRun r) (k n : ℕ) (t : IsTurn r k n) (job : ℕ) (asked : Call) (of : call_at r.calls job ≡ Some asked)
    (p : Path) (in_tmp : p.place ≡ Tmp) (makes : MakesMessage asked p.name) where
  abbrev s' : State
  s' = (machine_at r (k + 1)).dirs

  abbrev Touched : Type 0
  Touched =
      KeepsPath (machine_at r k).dirs s' p (at r k n t).clock ⊎
      (IsMade r k n job t p ⊎ ((file_at s' p ≡ None) × ((job ≡ n) ⊎ IsCleanedAway (trace_of r) k p)))

  abbrev its : Call
  its = (its-call r run k n _ t.there).0

  abbrev made : Asked
  made = (turn_by (machine_at r k) t.event t.task).asked

  abbrev replied : DirReply
  replied = reply_in (machine_at r k) t.event t.task

  of-its : call_at r.calls n ≡ Some its
  of-its = (its-call r run k n _ t.there).1

  fits : TaskFits (machine_at r k).dirs its t.task
  fits = its-fits r run k n its t.task of-its t.there

  same-job : MakesMessage its p.name → job ≡ n
  same-job also = one-maker r.calls (all-apart r run) job n asked its p.name of of-its makes also

  changed : Touches (machine_at r k).dirs s' p made replied (at r k n t).clock
  changed = subst (λ (x : State). Touches (machine_at r k).dirs x p made replied (at r k n t).clock) (sym (next-dirs r k n t))
      (touches (machine_at r k).dirs p in_tmp (sound-now r run k) (at r k n t).clock made replied
      (asks-fair (machine_at r k).dirs its t.event.event.job t.task (at r k n t) fits))

  pub touched : Touched
  touched = elim changed [
    | inl keeps ↦ inl keeps
    | inr other ↦ elim other [
      | inl made-now ↦
          let by = creates (machine_at r k).dirs its t.event.event.job (at r k n t) p in_tmp t.task fits made-now.call in
          inr (inl (record { own = same-job by.0; delivery = by.1.0; task = by.1.1; starts = by.1.2; makes = made-now }))
      | inr takes ↦ inr (inr (
        takes.gone,
        elim (unlinks (machine_at r k).dirs its t.event.event.job (at r k n t) p in_tmp t.task fits takes.call) [
          | inl also ↦ inl (same-job also)
          | inr clean ↦ inr (record {
            step = done_in r k n t;
            at = done-step r run k (done_in r k n t) (done-in r k n t);
            asked = takes.call;
            ok = takes.ok;
            folder = clean.0;
            by = ap (call_at r.calls) t.own ∙ of-its ∙ ap Some clean.1;
          })
        ],
      ))
    ]
  ]
