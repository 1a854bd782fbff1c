-- The cleaner's theorem.
use Rattle.std.proofs.Common.{ℕ, ◌≡◌, ◌≢◌, ◌≤◌, ◌<◌, ◌+◌, ◌-◌, Some, sym, ap, subst, ◌∙◌, arith}
use Rattle.std.proofs.lemmas.Bool.Decides.{nat_tests}
use Rattle.md_core.proofs.Values.{Path, Task, path_of as path, Tmp, Delivery, Step, call_at, IsStepOf, answered, working, job_at, Run, machine_at, jobs_of, first_step, IsRun, IsCleanedAway, trace_of, least_seconds, most_seconds, AreApart, CleanersSpare}
use Rattle.md_jobs.specs.declared.answer.Answer.TheVariants.{TmpGone}
use Rattle.md_jobs.specs.declared.call.Call.TheVariants.{Deliver}
use Rattle.md_core.specs.Tasks.Task as task
use Rattle.md_core.proofs.Induction.Good.{DeliveryFits}
use Rattle.md_core.proofs.Answers.LastStep.{IsTurn, last-step, done_in, done-in}
use Rattle.md_core.proofs.Answers.Moments.{its-call, its-fits, at, turn-done, next-clock, clock-grows, clock-later}
use Rattle.md_core.proofs.Answers.Files.Given.{OfDelivery, task-says, gone-of}
use Rattle.md_core.proofs.Answers.Files.Late.{late-clean}
use Rattle.md_core.proofs.Traces.Same.{step-done, done-step}
use Rattle.md_core.proofs.Traces.Stands.{answered-at}
use Rattle.md_core.proofs.Traces.Begun.{begins}

-- a delivery at work, by its call
pub record IsDelivering (r : Run) (job : ℕ) (d : Delivery) : Type 0 where
  pub of : call_at r.calls job ≡ Some (Deliver d.tmp.folder d.tmp.name d.body d.chunk)
  pub path_is : d.tmp ≡ path d.tmp.folder Tmp d.tmp.name

pub delivering : (r : Run) → IsRun r → (k job : ℕ) (t : IsTurn r k job) (d : Delivery) → t.task ≡ task.Deliver d → IsDelivering r job d
delivering r run k job t d is =
    let there : job_at (machine_at r k).jobs job ≡ Some (working (task.Deliver d)) = t.there ∙ ap (λ (x : Task). Some (working x)) is in
    let asked = its-call r run k job (working (task.Deliver d)) there in
    let fits : DeliveryFits (machine_at r k).dirs asked.0 d = its-fits r run k job asked.0 (task.Deliver d) asked.1 there in
    record {
      of = asked.1 ∙ ap Some fits.of;
      path_is = λ i. record { folder = d.tmp.folder; place = fits.in_tmp i; name = d.tmp.name };
    }

module _ (r : Run) (run : IsRun r) (seconds : ℕ) (few : seconds ≤ 14400) (apart : AreApart (trace_of r) seconds) where
  -- a delivery in time is not so long behind its first step
  in-time : (first clock own start : ℕ) → first + least_seconds ≤ clock + seconds → clock ≤ own + seconds → own - start < most_seconds →
      start ≤ first + seconds → ⊥
  in-time first clock own start late ahead short began = omega arith

  -- two steps at one event are one
  same-own : (job k : ℕ) (a b : IsStepOf (trace_of r) job k) → a.step.at.own ≡ b.step.at.own
  same-own job k a b =
      let same : a.step ≡ b.step = (let e : Some a.step ≡ Some b.step = sym a.at ∙ b.at in cc) in ap (λ (d : Step). d.at.own) same

  -- the clock of an event is at most that of a later one
  clock-of : (k : ℕ) (p : Path) (cleaned : IsCleanedAway (trace_of r) k p) (i n : ℕ) (t : IsTurn r i n) → k < i →
      cleaned.step.at.clock ≤ (at r i n t).clock
  clock-of k p cleaned i n t before =
      let done = turn-done r run k cleaned.step (step-done r run k cleaned.step cleaned.at) in
      let clock : cleaned.step.at.clock ≡ (at r k done.0 done.1).clock = ap (λ (d : Step). d.at.clock) done.2 in
      let next = next-clock r k done.0 done.1 in
      let later = clock-later r run (k + 1) i (omega (arith, before)) in
      let grows = clock-grows r i n t in
      omega (arith, clock, next, later, grows)

  never-gone : (job : ℕ) → job_at (jobs_of r) job ≢ Some (answered TmpGone)
  never-gone job is =
      let last = last-step r run job TmpGone is in
      let k = last.k in
      let t = last.turn in
      let of : OfDelivery r k job (at r k job t).own t.task TmpGone =
      gone-of r k job (at r k job t).own t.task (task-says r run job TmpGone last) in
      let d = of.0 in
      let start = of.2.0 in
      let h = of.2.1 in
      let gone = of.2.3 in
      let its = delivering r run k job t d of.1 in
      let cleaned = subst (IsCleanedAway (trace_of r) gone.event) its.path_is gone.cleaned in
      let late = late-clean r run seconds apart job d.tmp.folder d.tmp.name d.body d.chunk its.of gone.event cleaned in
      let later = clock-of gone.event (path d.tmp.folder Tmp d.tmp.name) cleaned k job t gone.before in
      let long = late.1 in
      let ahead = (apart k (done_in r k job t) (done-step r run k (done_in r k job t) (done-in r k job t))).1 in
      let short : (at r k job t).own - start < most_seconds = (let e = of.2.2 in grind (arith, nat_tests)) in
      let same = same-own job (first_step r job) late.0 h.begun in
      let own = h.own in
      let began = (apart (first_step r job) late.0.step late.0.at).0 in
      in-time late.0.step.at.clock (at r k job t).clock (at r k job t).own start (omega (arith, long, later)) ahead short
      (omega (arith, same, own, began))

pub cleaners : (r : Run) → IsRun r → CleanersSpare (trace_of r)
cleaners r run seconds few apart = record {
  never_gone = λ job answers. never-gone r run seconds few apart job (answered-at r run job TmpGone answers);
  late = λ k job folder u body chunk of cleaned.
      let late = late-clean r run seconds apart job folder u body chunk of k cleaned in
      record { first = begins r run job late.0; late = late.1 };
}
