-- What the answers say that come of time: that a delivery is out of time, that a clean took its file, and what a clean took away.
use Rattle.std.proofs.Common.{ℕ, ◌≡◌, ◌≤◌, ◌+◌, ◌-◌, Some, sym, ap, subst, ◌∙◌, arith}
use Rattle.std.proofs.lemmas.Bool.Decides.{nat_tests}
use Rattle.md_core.proofs.Values.{Path, Call, Answer, path_of as path, Tmp, Delivery, answered, job_at, Run, machine_at, jobs_of, first_step, call_at, IsStepOf, IsRun, IsInSpan, IsOutOfTime, IsGone, IsTimedOut, IsTmpGone, IsCleaned, Says, trace_of, most_seconds}
use Rattle.md_jobs.specs.declared.answer.Answer.TheVariants as answer
use Rattle.md_jobs.specs.declared.call.Call.TheVariants as call
use Rattle.md_core.proofs.Induction.Good.{CleaningFits, TaskFits}
use Rattle.md_core.proofs.Answers.LastStep.{IsTurn, last-step, is-step}
use Rattle.md_core.proofs.Answers.Moments.{its-fits, at}
use Rattle.md_core.proofs.Answers.Files.Writing.{IsTaken}
use Rattle.md_core.proofs.Answers.Files.Given.{OfDelivery, task-says, gone-of, timed-of, clean-of}
use Rattle.md_core.proofs.Answers.Files.Cleaner.{IsDelivering, delivering}
use Rattle.md_core.proofs.Answers.Files.Cleaned.{has-cleaned}
use Rattle.md_core.proofs.Answers.Files.Unlinks.{asks-unlink}
use Rattle.md_core.proofs.Traces.Begun.{begins}

abbrev pub IsOfTime : Answer → Type 0
IsOfTime answer.TimedOut = Unit {0}
IsOfTime answer.TmpGone = Unit {0}
IsOfTime (answer.Cleaned n) = Unit {0}
IsOfTime other = ⊥

module _ (r : Run) (run : IsRun r) (job : ℕ) (c : Call) (of : call_at r.calls job ≡ Some c) where
  -- the call of a delivery
  call-is : (d : Delivery) → IsDelivering r job d → c ≡ call.Deliver d.tmp.folder d.tmp.name d.body d.chunk
  call-is d its = let e : Some c ≡ Some (call.Deliver d.tmp.folder d.tmp.name d.body d.chunk) = sym of ∙ its.of in cc

  is-timed-out : job_at (jobs_of r) job ≡ Some (answered answer.TimedOut) → IsTimedOut (trace_of r) job c
  is-timed-out is =
      let last = last-step r run job answer.TimedOut is in
      let k = last.k in
      let t = last.turn in
      let of-it : OfDelivery r k job (at r k job t).own t.task answer.TimedOut =
      timed-of r k job (at r k job t).own t.task (task-says r run job answer.TimedOut last) in
      let start = of-it.2.0 in
      let h = of-it.2.1 in
      let own = h.own in
      let long : most_seconds ≤ (at r k job t).own - start = (let e = of-it.2.2 in grind (arith, nat_tests)) in
      let d = of-it.0 in
      let its = delivering r run k job t d of-it.1 in
      let asked = asks-unlink r run job d.tmp.folder d.tmp.name d.body d.chunk answer.TimedOut tt its.of last in
      let out : IsOutOfTime (trace_of r) job (path d.tmp.folder Tmp d.tmp.name) = record {
        first = begins r run job h.begun;
        end = record { k = k; last = is-step r run k job t; asked = asked; answer = last.answer };
        seconds = omega (arith, long, own);
      } in
      subst (IsTimedOut (trace_of r) job) (sym (call-is d its)) out

  is-gone : (k : ℕ) (t : IsTurn r k job) (p : Path) (begun : IsStepOf (trace_of r) job (first_step r job)) → IsTaken r job k p → IsGone (trace_of r) job p
  is-gone k t p begun gone =
      let after = gone.after in
      let before = gone.before in
      let within : (i : ℕ) → first_step r job ≤ i → i ≤ k + 1 → IsInSpan (trace_of r) job i =
      λ i since until.
      record { from = first_step r job; to = k; begun = begun; goes_on = is-step r run k job t; after = since; before = until } in
      record {
        k = gone.event;
        cleaned = gone.cleaned;
        before = within gone.event (omega (arith, after)) (omega (arith, before));
        after = within (gone.event + 1) (omega (arith, after)) (omega (arith, before));
      }

  is-cleaned : (n : ℕ) → job_at (jobs_of r) job ≡ Some (answered (answer.Cleaned n)) → IsCleaned (trace_of r) job c n
  is-cleaned n is =
      let last = last-step r run job (answer.Cleaned n) is in
      let k = last.k in
      let t = last.turn in
      let clean = clean-of r k job (at r k job t).own t.task n (task-says r run job (answer.Cleaned n) last) in
      let asked : CleaningFits c clean.0 = subst (TaskFits (machine_at r k).dirs c) clean.1 (its-fits r run k job c t.task of t.there) in
      subst (λ (x : Call). IsCleaned (trace_of r) job x n) (sym asked) (has-cleaned r run job clean.0.folder (of ∙ ap Some asked) k (is-step r run k job t) n is)

  is-tmp-gone : job_at (jobs_of r) job ≡ Some (answered answer.TmpGone) → IsTmpGone (trace_of r) job c
  is-tmp-gone is =
      let last = last-step r run job answer.TmpGone is in
      let k = last.k in
      let t = last.turn in
      let of-it : OfDelivery r k job (at r k job t).own t.task answer.TmpGone =
      gone-of r k job (at r k job t).own t.task (task-says r run job answer.TmpGone last) in
      let d = of-it.0 in
      let its = delivering r run k job t d of-it.1 in
      let gone : IsGone (trace_of r) job (path d.tmp.folder Tmp d.tmp.name) =
      subst (IsGone (trace_of r) job) its.path_is (is-gone k t d.tmp of-it.2.1.begun of-it.2.3) in
      subst (IsTmpGone (trace_of r) job) (sym (call-is d its)) gone

pub says_of_time : (r : Run) → IsRun r → (job : ℕ) (c : Call) (a : Answer) → call_at r.calls job ≡ Some c →
    job_at (jobs_of r) job ≡ Some (answered a) → IsOfTime a → Says (trace_of r) job c a
says_of_time r run job c answer.TimedOut of is which = is-timed-out r run job c of is
says_of_time r run job c answer.TmpGone of is which = is-tmp-gone r run job c of is
says_of_time r run job c (answer.Cleaned n) of is which = is-cleaned r run job c of n is
says_of_time r run job c other of is which = absurd which
