-- The first step of a job, in its run and in its trace.
use Rattle.std.proofs.Common.{ℕ, ◌≡◌, ◌≤◌, ◌==◌, Bool, true, sym, ap, subst, ◌∙◌, arith}
use Rattle.std.proofs.lemmas.Bool.Decides.{nat_tests}
use Rattle.md_core.proofs.Values.{Occurrence, Trace, Step, IsStepOf, Begins, Run, first_step, IsRun, trace_of, position_or_len}
use Rattle.md_core.proofs.Traces.Same.{same-jobs}
use Rattle.md_core.proofs.Traces.Few.{place-map, place-before, at-place}

-- the moment of a job's first step, or the last moment where it has taken none
abbrev pub begins_at : Trace → ℕ → ℕ
begins_at t job = position_or_len (λ (x : Step). x.job == job) t.steps

module _ (r : Run) (run : IsRun r) (job : ℕ) where
  abbrev t : Trace
  t = trace_of r

  abbrev is_own : Step → Bool
  is_own x = x.job == job

  pub owned : (x : Step) → x.job ≡ job → is_own x ≡ true
  owned x own = grind (arith, nat_tests, own)

  pub same-job : (x : Step) → is_own x ≡ true → x.job ≡ job
  same-job x hit = grind (arith, nat_tests, hit)

  pub begins-same : begins_at t job ≡ first_step r job
  begins-same =
      place-map (λ (x : Step). x.job) job t.steps ∙ ap (position_or_len (λ m. m == job)) (same-jobs r run)
      ∙ sym (place-map (λ (e : Occurrence). e.event.job) job r.events)

  -- a job begins with its first event
  abbrev pub begins : IsStepOf t job (first_step r job) → Begins t job
  begins begun = record {
    k = first_step r job;
    begun = begun;
    first = λ i x. subst (λ n. n ≤ i) begins-same (place-before is_own t.steps i x.step x.at (owned x.step x.own));
  }

  -- a job with a step begins with one
  abbrev pub begins-some : (i : ℕ) → IsStepOf t job i → Begins t job
  begins-some i x =
      let h = at-place is_own t.steps i x.step x.at (owned x.step x.own) in
      record {
        k = begins_at t job;
        begun = record { step = h.0; at = h.1; own = same-job h.0 h.2 };
        first = λ j y. place-before is_own t.steps j y.step y.at (owned y.step y.own);
      }
