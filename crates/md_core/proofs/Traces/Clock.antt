-- The moments of steps: the store's clock never goes back, and each moment is what the log gives.
use Rattle.std.proofs.Common.{ℕ, zero, suc, ◌≡◌, ◌≤◌, ◌+◌, Option, Some, sym, ap, subst, ◌∙◌, length, slice_get, unwrap_or, max, arith}
use Rattle.std.proofs.lemmas.Option.{slice_get-map}
use Rattle.md_core.proofs.Values.{Event, Machine, Occurrence, Step, Trace, step_at, Run, machine_at, log_of, IsRun, trace_of, clock_before, IsLogged, option_map, option_map_or}
use Rattle.md_core.proofs.Lists.Places.{at_place}
use Rattle.md_core.proofs.Runs.ByEvent.{moment-start}
use Rattle.md_core.proofs.Answers.LastStep.{is_within}
use Rattle.md_core.proofs.Answers.Moments.{turn-done, next-clock, clock-later}
use Rattle.md_core.proofs.Traces.Same.{many-steps, step-done}

module _ (r : Run) (run : IsRun r) where
  abbrev t : Trace
  t = trace_of r

  -- after a step the clock is that of its moment
  pub clock-then : (k : ℕ) (x : Step) → step_at t k ≡ Some x → clock_before r (k + 1) ≡ x.at.clock
  clock-then k x at =
      let e : k + 1 ≡ suc k = omega arith in
      ap (clock_before r) e ∙ ap (λ (o : Option Step). option_map_or (λ (y : Step). y.at.clock) o r.clock) at

  clock-after : (k : ℕ) (x : Step) → step_at t k ≡ Some x → (machine_at r (k + 1)).clock ≡ x.at.clock
  clock-after k x at =
      let h = turn-done r run k x (step-done r run k x at) in
      next-clock r k h.0 h.1 ∙ ap (λ (d : Step). d.at.clock) (sym h.2)

  pub forward : (i k : ℕ) (x y : Step) → step_at t i ≡ Some x → step_at t k ≡ Some y → i ≤ k → x.at.clock ≤ y.at.clock
  forward i k x y first last before =
      let was = clock-after i x first in
      let is = clock-after k y last in
      let later = clock-later r run (i + 1) (k + 1) (omega (arith, before)) in
      omega (arith, was, is, later)

  clock-is : (k : ℕ) → k ≤ length r.events → clock_before r k ≡ (machine_at r k).clock
  clock-is zero within = ap (λ (m : Machine). m.clock) (sym (moment-start r))
  clock-is (suc k) within = at_place t.steps k
      (λ x at.
      let e : k + 1 ≡ suc k = omega arith in
      ap (clock_before r) (sym e) ∙ clock-then k x at ∙ sym (clock-after k x at) ∙ ap (λ (n : ℕ). (machine_at r n).clock) e)
      (λ past. absurd (let many = many-steps r run in omega (arith, many, past, within)))

  -- the event of a step
  pub event-of : (k : ℕ) (x : Step) → step_at t k ≡ Some x → (e : Occurrence) × (slice_get r.events k ≡ Some e) × IsLogged r k e.event x
  event-of k x at =
      let h = turn-done r run k x (step-done r run k x at) in
      let within = is_within r k h.0 h.1 in
      let before = clock-is k (omega (arith, within)) in
      let clock = ap (λ (d : Step). d.at.clock) h.2 in (
        h.1.event,
        h.1.at,
        record {
          job = ap (λ (d : Step). d.job) h.2;
          clock = clock ∙ ap (λ (n : ℕ). max n h.1.event.event.now) (sym before);
          own = ap (λ (d : Step). d.at.own) h.2 ∙ ap (unwrap_or h.1.event.event.own) (sym clock);
        },
      )

  pub logged : (k : ℕ) (e : Event) (x : Step) → slice_get (log_of r) k ≡ Some e → step_at t k ≡ Some x → IsLogged r k e x
  logged k e x log at =
      let h = event-of k x at in
      let given : Some h.0.event ≡ Some e =
      sym (ap (option_map (λ (o : Occurrence). o.event)) h.1) ∙ sym (slice_get-map (λ (o : Occurrence). o.event) r.events k) ∙ log in
      let same : h.0.event ≡ e = cc in
      subst (λ (v : Event). IsLogged r k v x) same h.2
