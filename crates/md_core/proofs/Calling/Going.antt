-- A run that goes on by one more step of its one job.
use Rattle.std.proofs.Common.{ℕ, ◌≡◌, ◌<◌, ◌++◌, [], ◌∷◌, Option, None, Bool, sym, ap, subst, ◌∙◌, append_assoc}
use Rattle.md_core.proofs.Values.{Call, Event, Occurrence, job_at, Run, jobs_of, and_event, and_call, step_refusal, IsRun, HasJob, next_job, GoesOnBy, OthersStay, StepsAlone}
use Rattle.md_core.specs.Runs.{steps_left}
use Rattle.md_core.proofs.Lists.Places.{at_end}
use Rattle.md_core.proofs.Machines.EachTurn.{each-turn}
use Rattle.md_core.proofs.Theorem.Bounds.{steps_left-less, jobs-same}
use Rattle.md_core.proofs.Runs.Extended.{is_run-and_event}
use Rattle.md_core.proofs.Runs.Going.{there-after}

pub goes-more : (event : Event) (r r' r'' : Run) (e : Occurrence) → e.event ≡ event → GoesOnBy event r r' → r'' ≡ and_event r' e →
    GoesOnBy event r r''
goes-more event r r' r'' e own g is = record {
  events = g.events ++ e ∷ [];
  each = λ k x at. at_end g.events e k x at (λ early. g.each k x early) (λ _ last. ap (λ (y : Occurrence). y.event) last ∙ own);
  goes = is ∙ ap (λ (x : Run). and_event x e) g.goes ∙ (λ i. record r { events = append_assoc r.events g.events (e ∷ []) i });
}

-- what is so of a job that takes steps alone, after one more
module _ (event : Event) (r' r'' : Run) (faulted : Bool) (run : IsRun r')
    (is : r'' ≡ and_event r' (record { event = event; faulted = faulted })) (goes : step_refusal (job_at (jobs_of r') event.job) ≡ None) where
  pub run-more : IsRun r''
  run-more = subst (λ (x : Run). IsRun x) (sym is) (is_run-and_event r' (record { event = event; faulted = faulted }) run goes)

  pub there-more : HasJob r'' event.job
  there-more = subst (λ (x : Run). HasJob x event.job) (sym is) (there-after r' (record { event = event; faulted = faulted }) goes)

  pub less-more : steps_left r'' event.job < steps_left r' event.job
  less-more = subst (λ (x : Run). steps_left x event.job < steps_left r' event.job) (sym is)
      (steps_left-less r' run each-turn (record { event = event; faulted = faulted }) goes)

  pub others-more : OthersStay event.job r' r''
  others-more = λ n differ.
      ap (λ (x : Run). job_at (jobs_of x) n) is ∙ jobs-same r' run each-turn (record { event = event; faulted = faulted }) goes n differ

-- where a call was submitted, and its job took the steps since, its job's number is the next
pub steps-alone : (r r0 r' : Run) (call : Call) (job now : ℕ) (own : Option ℕ) → r0 ≡ and_call r call → job ≡ next_job r →
    GoesOnBy (record { job = job; now = now; own = own }) r0 r' → StepsAlone call now own r r'
steps-alone r r0 r' call job now own submitted number g =
    subst (λ (x : Run). GoesOnBy (record { job = next_job r; now = now; own = own }) x r') submitted
    (subst (λ n. GoesOnBy (record { job = n; now = now; own = own }) r0 r') number g)
