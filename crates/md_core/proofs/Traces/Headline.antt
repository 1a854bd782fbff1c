-- The clauses on effects: each call takes effect at one step of its own.
use Rattle.std.proofs.Common.{ℕ, ◌≡◌, ◌<◌, ◌≤◌, ◌+◌, ◌==◌, List, [], ◌∷◌, Option, Some, None, Bool, true, refl, sym, ap, subst, ◌∙◌, length, filter, is_some, arith, MatchOption}
use Rattle.std.proofs.lemmas.Bool.Decides.{nat_tests}
use Rattle.std.proofs.lemmas.List.{take_all}
use Rattle.std.proofs.lemmas.Option.{slice_get_within}
use Rattle.md_core.proofs.Values.{State, Call, Effect, Task, Answer, Mailbox, mailbox_of, alone, Machine, Standing, answered, job_at, Step, call_at, Trace, IsStepOf, IsAnswered, step_at, box, Run, machine_at, jobs_of, effects_of, IsRun, AsAlone, is_effect_at, IsEffectOf, TakesEffect, Acts, IsDelivery, IsOwnEffect, trace_of, filter_map, option_or}
use Rattle.md_core.specs.Tasks.Task as task
use Rattle.md_core.proofs.Theorem.RunLaw.{RunLaw, Happened, JobLaw}
use Rattle.md_core.proofs.Machines.EachTurn.{each-turn}
use Rattle.md_core.proofs.Theorem.LawHolds.{run-law}
use Rattle.md_core.proofs.Induction.Good.{TaskFits, Settles, own_effect}
use Rattle.md_core.proofs.Induction.GoodRuns.{what-at, going-at, done-what}
use Rattle.md_core.proofs.Runs.ByEvent.{moment-end}
use Rattle.md_core.proofs.Lists.Places.{at_place}
use Rattle.md_core.proofs.Traces.Same.{many-steps, state-same, effects-same, step-done}
use Rattle.md_core.proofs.Traces.Stands.{answered-at, job-there}
use Rattle.md_core.proofs.Traces.Few.{given, nothing, found, single}

module _ (r : Run) (run : IsRun r) where
  abbrev t : Trace
  t = trace_of r

  pub theorem : RunLaw r
  theorem = run-law each-turn r run

  abbrev own_of : Step → Option Effect
  own_of x = x.effect

  abbrev is_of : ℕ → Effect → Bool
  is_of job e = e.job == job

  -- all effects
  pub all-effects : filter_map own_of t.steps ≡ effects_of r
  all-effects =
      let n = length r.events in
      ap (filter_map own_of) (sym (take_all n t.steps (let m = many-steps r run in omega (arith, m))))
      ∙ effects-same r run n ∙ ap (λ (m : Machine). m.effects) (moment-end r)

  given-is : (job : ℕ) → given own_of (is_of job) t.steps ≡ filter (λ (e : Effect). e.job == job) (effects_of r)
  given-is job = ap (filter (is_of job)) all-effects

  pub box-same : (k : ℕ) → box t k ≡ mailbox_of (machine_at r k).dirs
  box-same k = ap mailbox_of (state-same r run k)

  -- what happened at step k
  module _ (k : ℕ) (x : Step) (at : step_at t k ≡ Some x) where
    within : k < length r.events
    within = let n = slice_get_within t.steps k x at in let m = many-steps r run in omega (arith, n, m)

    happened : Happened r k
    happened = theorem.happened k within

    same : happened.what ≡ x
    same = let e : Some happened.what ≡ Some x = sym happened.at ∙ step-done r run k x at in cc

    called : call_at r.calls x.job ≡ Some happened.call
    called = ap (λ (d : Step). call_at r.calls d.job) (sym same) ∙ happened.of

    its-call : (c : Call) → call_at t.calls x.job ≡ Some c → happened.call ≡ c
    its-call c of = let e : Some happened.call ≡ Some c = sym called ∙ of in cc

    as_alone : AsAlone happened.call x.effect (box t k) (box t (k + 1))
    as_alone = subst (λ (m : Mailbox). AsAlone happened.call x.effect m (box t (k + 1))) (sym (box-same k))
        (subst (λ (m : Mailbox). AsAlone happened.call x.effect (mailbox_of (machine_at r k).dirs) m) (sym (box-same (k + 1)))
        (subst (λ (d : Step). AsAlone happened.call d.effect (mailbox_of (machine_at r k).dirs) (mailbox_of (machine_at r (k + 1)).dirs)) same
        happened.simulates.as_alone))

    pub quiet : x.effect ≡ None → box t (k + 1) ≡ box t k
    quiet none = subst (λ (o : Option Effect). AsAlone happened.call o (box t k) (box t (k + 1))) none as_alone

    pub placed : (c : Call) → call_at t.calls x.job ≡ Some c → is_some x.effect ≡ is_effect_at c x.asked x.reply x.answer
    placed c of =
        subst (λ (d : Step). is_some d.effect ≡ is_effect_at happened.call d.asked d.reply d.answer) same happened.simulates.is_effect
        ∙ ap (λ (y : Call). is_effect_at y x.asked x.reply x.answer) (its-call c of)

    module _ (e : Effect) (is : x.effect ≡ Some e) where
      of-job : e.job ≡ x.job
      of-job =
          let some : happened.what.effect ≡ Some e = ap (λ (d : Step). d.effect) same ∙ is in
          let h = happened.simulates.own in
          let g : e.job ≡ happened.what.job = subst (λ (o : Option Effect). MatchOption o (Unit {0}) (λ y. y.job ≡ happened.what.job)) some h in
          g ∙ ap (λ (d : Step). d.job) same

      alone-is : alone happened.call (box t k) ≡ record { answer = e.answer; after = box t (k + 1) }
      alone-is = subst (λ (o : Option Effect). AsAlone happened.call o (box t k) (box t (k + 1))) is as_alone

      pub is-effect : (job : ℕ) → x.job ≡ job → (c : Call) → call_at t.calls job ≡ Some c → IsEffectOf t job c e.answer k
      is-effect job own c of = record {
        own = record { step = x; at = at; own = own };
        effect = e;
        is = is;
        of = of-job ∙ own;
        answers = refl;
        as_alone = ap (λ (y : Call). alone y (box t k)) (sym (its-call c (ap (call_at r.calls) own ∙ of))) ∙ alone-is;
      }

  same-number : (n : ℕ) → (n == n) ≡ true
  same-number n = grind (arith, nat_tests)

  -- an effect of a step is of its job
  mine : (job k : ℕ) (x : IsStepOf t job k) (e : Effect) → x.step.effect ≡ Some e → is_of job e ≡ true
  mine job k x e is = ap (λ n. n == job) (of-job k x.step x.at e is ∙ x.own) ∙ same-number job

  some-effect : (o : Option Effect) → is_some o ≡ true → (e : Effect) × (o ≡ Some e)
  some-effect None is = cc
  some-effect (Some e) is = (e, refl)

  -- where a job has one effect, one of its steps is that
  one : (job : ℕ) (c : Call) (e : Effect) → call_at t.calls job ≡ Some c → filter (λ (y : Effect). y.job == job) (effects_of r) ≡ e ∷ [] →
      TakesEffect t job c e.answer
  one job c e of is =
      let all : given own_of (is_of job) t.steps ≡ e ∷ [] = given-is job ∙ is in
      let g = found own_of (is_of job) t.steps e [] all in
      let own : g.x.job ≡ job = sym (of-job g.k g.x g.at e g.is) ∙ (let hit = g.passes in grind (arith, nat_tests)) in
      record {
        k = g.k;
        effect = is-effect g.k g.x g.at e g.is job own c of;
        only = λ i x some.
            let h = some-effect x.step.effect some in
            single own_of (is_of job) t.steps e all i g.k x.step g.x h.0 e x.at g.at h.1 g.is (mine job i x h.0 h.1) g.passes;
      }

  no-effect : (job : ℕ) → filter (λ (y : Effect). y.job == job) (effects_of r) ≡ [] → (i : ℕ) (x : IsStepOf t job i) → x.step.effect ≡ None
  no-effect job none i x = by x.step.effect refl
    where
      by : (o : Option Effect) → x.step.effect ≡ o → o ≡ None
      by None is = refl
      by (Some e) is = absurd (nothing own_of (is_of job) t.steps i x.step e (given-is job ∙ none) x.at is (mine job i x e is))

  pub law-of : (job : ℕ) (c : Call) → call_at t.calls job ≡ Some c → (s : Standing) × (job_at (jobs_of r) job ≡ Some s) × JobLaw r job c s
  law-of job c of = let s = job-there r run job c of in (s.0, s.1, theorem.jobs job c s.0 of s.1)

  pub acts : (job : ℕ) (c : Call) (a : Answer) → call_at t.calls job ≡ Some c → IsAnswered t job a → Acts t job c a
  acts job c a of answers =
      let law = theorem.jobs job c (answered a) of (answered-at r run job a answers) in
      record {
        done = λ success. let h = law.success a refl success in subst (TakesEffect t job c) h.2 (one job c h.0 of h.1);
        undone = λ failure. no-effect job (law.failure a refl failure);
      }

  -- a list of at most one element that isn't empty
  one-of : (es : List Effect) → length es ≤ 1 → (es ≡ [] → ⊥) → (e : Effect) × (es ≡ e ∷ [])
  one-of [] few some = absurd (some refl)
  one-of (e ∷ []) few some = (e, refl)
  one-of (e ∷ d ∷ es) few some = absurd (omega (arith, few))

  -- a job with an effect and no answer is a delivery
  delivers : (s : State) (c : Call) (n : ℕ) (e : Effect) (had : Task) → TaskFits s c had → own_effect n had ≡ Some e → IsDelivery c
  delivers s c n e (task.Deliver d) fits is = subst IsDelivery (sym fits.of) tt
  delivers s c n e other fits is = cc

  early : (k : ℕ) (x : Step) (at : step_at t k ≡ Some x) (e : Effect) → x.effect ≡ Some e → x.answer ≡ None →
      (c : Call) → call_at t.calls x.job ≡ Some c → IsDelivery c
  early k x at e is none c of = at_place r.events k
      (λ ev ate.
      let g = going-at r run each-turn k ev ate in
      let what = what-at r run each-turn k ev ate in
      let same-what : what ≡ x = (let h : Some what ≡ Some x = sym (done-what r run each-turn k ev ate) ∙ step-done r run k x at in cc) in
      let unanswered : what.answer ≡ None = ap (λ (d : Step). d.answer) same-what ∙ none in
      let effect : what.effect ≡ Some e = ap (λ (d : Step). d.effect) same-what ∙ is in
      let kept : own_effect what.job g.task' ≡ option_or what.effect (own_effect what.job g.task) =
      subst (λ (o : Option Answer). MatchOption o (own_effect what.job g.task' ≡ option_or what.effect (own_effect what.job g.task))
      (Settles (option_or what.effect (own_effect what.job g.task)))) unanswered g.does.settles in
      let has : own_effect what.job g.task' ≡ Some e = kept ∙ ap (λ o. option_or o (own_effect what.job g.task)) effect in
      let called-is : Some g.asked ≡ Some c = sym g.of ∙ ap (call_at r.calls) (sym g.number_is) ∙ ap (λ (d : Step). call_at r.calls d.job) same-what ∙ of in
      let asked-is : g.asked ≡ c = cc in
      subst IsDelivery asked-is (delivers (machine_at r (k + 1)).dirs g.asked what.job e g.task' (g.does.fits unanswered) has))
      (λ past. absurd (let h = within k x at in omega (arith, h, past)))

  pub own : (k : ℕ) (x : Step) (e : Effect) → step_at t k ≡ Some x → x.effect ≡ Some e → IsOwnEffect t k x e
  own k x e at is =
      let c = (happened k x at).call in
      let of = called k x at in
      let law = law-of x.job c of in
      let some = one-of (filter (λ (y : Effect). y.job == x.job) (effects_of r)) law.2.once
      (λ none. nothing own_of (is_of x.job) t.steps k x e (given-is x.job ∙ none) at is
      (mine x.job k (record { step = x; at = at; own = refl }) e is)) in
      let all : given own_of (is_of x.job) t.steps ≡ some.0 ∷ [] = given-is x.job ∙ some.1 in
      record {
        call = c;
        of = of;
        effect = record {
          k = k;
          effect = is-effect k x at e is x.job refl c of;
          only = λ i y hit.
              let h = some-effect y.step.effect hit in
              single own_of (is_of x.job) t.steps some.0 all i k y.step x h.0 e y.at at h.1 is (mine x.job i y h.0 h.1)
              (mine x.job k (record { step = x; at = at; own = refl }) e is);
        };
        early = λ none. early k x at e is none c of;
      }
