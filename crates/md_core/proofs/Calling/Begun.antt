-- The job of a call that was just submitted: it is there, the other jobs are as they were, and a job without an answer goes on.
use Rattle.std.proofs.Common.{ℕ, zero, suc, ◌≡◌, ◌≢◌, ◌≤◌, ◌+◌, ◌-◌, ◌++◌, List, [], ◌∷◌, Some, None, refl, sym, ap, ◌∙◌, length, slice_get, arith, length-append}
use Rattle.md_core.proofs.Values.{Call, Machine, Standing, working, answered, job_at, new_job, Run, jobs_of, and_call, answer_of, step_refusal, IsRun, HasJob, next_job, OthersStay, IsUnanswered}
use Rattle.md_core.proofs.Lists.Places.{at_place}
use Rattle.md_core.proofs.Runs.Events.{job_at-place}
use Rattle.md_core.proofs.Runs.ByEvent.{length-jobs_of, machine-and_call}

get-beside : {X : Type 0} (xs : List X) (new : X) (i : ℕ) → i ≢ length xs → slice_get (xs ++ new ∷ []) i ≡ slice_get xs i
get-beside [] new zero differ = absurd (differ refl)
get-beside [] new (suc i) differ = refl
get-beside (x ∷ xs) new zero differ = refl
get-beside (x ∷ xs) new (suc i) differ = get-beside xs new i (λ e. differ (ap suc e))

job_at-beside : (jobs : List Standing) (new : Standing) (n : ℕ) → n ≢ length jobs + 1 → job_at (jobs ++ new ∷ []) n ≡ job_at jobs n
job_at-beside jobs new zero differ = refl
job_at-beside jobs new (suc i) differ = get-beside jobs new i (λ e. differ (omega (arith, e)))

module _ (r : Run) (run : IsRun r) (call : Call) where
  others-submitted : OthersStay (next_job r) r (and_call r call)
  others-submitted n differ =
      ap (λ (m : Machine). job_at m.jobs n) (machine-and_call r run call)
      ∙ job_at-beside (jobs_of r) (new_job call) n (λ e. differ (let many = length-jobs_of r run in omega (arith, e, many)))

  -- the other jobs after the submit are those before it
  pub others-since : (r' : Run) → OthersStay (next_job r) (and_call r call) r' → OthersStay (next_job r) r r'
  others-since r' stay n differ = stay n differ ∙ others-submitted n differ

  pub there-submitted : IsRun (and_call r call) → HasJob (and_call r call) (next_job r)
  there-submitted run0 = record {
    from = omega arith;
    within =
        let many = length-jobs_of (and_call r call) run0 in
        let more : length (r.calls ++ call ∷ []) ≡ length r.calls + 1 = length-append r.calls (call ∷ []) in
        omega (arith, many, more);
  }

-- a job that is there and has no answer goes on
pub unanswered : (r : Run) (job : ℕ) → HasJob r job → None ≡ answer_of (job_at (jobs_of r) job) → IsUnanswered r job
unanswered r job there none = record { unanswered = sym none; goes_on = at_place (jobs_of r) (job - 1) (λ s at. by s at) past }
  where
    by : (s : Standing) → slice_get (jobs_of r) (job - 1) ≡ Some s → step_refusal (job_at (jobs_of r) job) ≡ None
    by s at = ap step_refusal is ∙ on s (none ∙ ap answer_of is)
      where
        is : job_at (jobs_of r) job ≡ Some s
        is = job_at-place (jobs_of r) job there.from ∙ at

        on : (x : Standing) → None ≡ answer_of (Some x) → step_refusal (Some x) ≡ None
        on (working task) h = refl
        on (answered a) h = cc

    past : length (jobs_of r) ≤ job - 1 → step_refusal (job_at (jobs_of r) job) ≡ None
    past beyond = absurd (let low = there.from in let high = there.within in omega (arith, low, high, beyond))
