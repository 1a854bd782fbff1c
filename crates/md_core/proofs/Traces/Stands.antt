-- Steps and answers of a trace are those of its run.
use Rattle.std.proofs.Common.{ℕ, zero, suc, ◌≡◌, ◌<◌, ◌+◌, ◌-◌, Option, Some, sym, ap, subst, ◌∙◌, length, arith}
use Rattle.std.proofs.lemmas.Option.{slice_get_within}
use Rattle.md_core.proofs.Values.{Call, Answer, Machine, Standing, working, answered, job_at, standing_of, Step, call_at, Trace, IsStepOf, IsAnswered, Run, machine_at, jobs_of, IsRun, trace_of}
use Rattle.md_core.proofs.Lists.Places.{at_place}
use Rattle.md_core.proofs.Runs.ByEvent.{moment-end, length-jobs_of}
use Rattle.md_core.proofs.Answers.LastStep.{IsTurn, is-step, last-step, by_event, left_by, is_within, done_in, stands-after}
use Rattle.md_core.proofs.Answers.Moments.{turn-done}
use Rattle.md_core.proofs.Traces.Same.{step-done}

module _ (r : Run) (run : IsRun r) where
  abbrev t : Trace
  t = trace_of r

  -- a step is a turn of its job
  pub turn-of : (job k : ℕ) (x : IsStepOf t job k) → (u : IsTurn r k job) × (x.step ≡ done_in r k job u)
  turn-of job k x =
      let h = turn-done r run k x.step (step-done r run k x.step x.at) in
      let own : h.0 ≡ job = sym h.1.own ∙ ap (λ (d : Step). d.job) (sym h.2) ∙ x.own in
      subst (λ n. (u : IsTurn r k n) × (x.step ≡ done_in r k n u)) own (h.1, h.2)

  pub answered-of : (job : ℕ) (a : Answer) → job_at (jobs_of r) job ≡ Some (answered a) → IsAnswered t job a
  answered-of job a is =
      let last = last-step r run job a is in
      record { k = last.k; last = is-step r run last.k job last.turn; answer = last.answer }

  -- an answer stays
  stays : (k d job : ℕ) (a : Answer) → job_at (machine_at r k).jobs job ≡ Some (answered a) → job_at (machine_at r (k + d)).jobs job ≡ Some (answered a)
  stays k zero job a is = let e : k ≡ k + 0 = omega arith in subst (λ n. job_at (machine_at r n).jobs job ≡ Some (answered a)) e is
  stays k (suc d) job a is =
      let before = stays k d job a is in
      let e : (k + d) + 1 ≡ k + suc d = omega arith in
      subst (λ n. job_at (machine_at r n).jobs job ≡ Some (answered a)) e (by_event r run (k + d) job (λ same. same ∙ before)
      (λ u. let h : Some (working u.task) ≡ Some (answered a) = sym u.there ∙ before in cc))

  pub answered-by : (job k : ℕ) (x : IsStepOf t job k) (a : Answer) → x.step.answer ≡ Some a → job_at (machine_at r (k + 1)).jobs job ≡ Some (answered a)
  answered-by job k x a is =
      let h = turn-of job k x in
      let its : (left_by r k job h.0).answer ≡ Some a = ap (λ (d : Step). d.answer) (sym h.1) ∙ is in
      stands-after r k job h.0 ∙ ap (λ (o : Option Answer). Some (standing_of (left_by r k job h.0).task o)) its

  pub answered-later : (job k i : ℕ) (x : IsStepOf t job k) (a : Answer) → x.step.answer ≡ Some a → k < i → job_at (machine_at r i).jobs job ≡ Some (answered a)
  answered-later job k i x a is before =
      let e : (k + 1) + (i - (k + 1)) ≡ i = omega (arith, before) in
      subst (λ n. job_at (machine_at r n).jobs job ≡ Some (answered a)) e (stays (k + 1) (i - (k + 1)) job a (answered-by job k x a is))

  pub answered-at : (job : ℕ) (a : Answer) → IsAnswered t job a → job_at (jobs_of r) job ≡ Some (answered a)
  answered-at job a x =
      let within = is_within r x.k job (turn-of job x.k x.last).0 in
      ap (λ (m : Machine). job_at m.jobs job) (sym (moment-end r)) ∙ answered-later job x.k (length r.events) x.last a x.answer within

  -- a job with an answer takes no step
  pub ended : (i k job : ℕ) (a : Answer) (x : IsStepOf t job i) → x.step.answer ≡ Some a → i < k → IsStepOf t job k → ⊥
  ended i k job a x is before y =
      let h = turn-of job k y in
      let e : Some (working h.0.task) ≡ Some (answered a) = sym h.0.there ∙ answered-later job i k x a is before in
      cc

  -- each call has its job
  pub job-there : (job : ℕ) (c : Call) → call_at r.calls job ≡ Some c → (s : Standing) × (job_at (jobs_of r) job ≡ Some s)
  job-there zero c of = cc
  job-there (suc i) c of = at_place (jobs_of r) i (λ s at. (s, at))
      (λ past. absurd (let within = slice_get_within r.calls i c of in let many = length-jobs_of r run in omega (arith, within, many, past)))
