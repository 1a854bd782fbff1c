-- A job that goes on is there, and stays there.
use Rattle.std.proofs.Common.{ℕ, ◌≡◌, None, sym, subst, ◌≤◌, ap, ◌∙◌, length}
use Rattle.md_core.proofs.Values.{Machine, Occurrence, job_at, Run, machine_of, jobs_of, and_event, step_refusal, HasJob}
use Rattle.md_core.proofs.Runs.ByEvent.{machine-and_event, length-met}
use Rattle.md_core.proofs.Runs.Events.{goes_on-exact, job_at-within}

pub there-now : (r : Run) (job : ℕ) → step_refusal (job_at (jobs_of r) job) ≡ None → HasJob r job
there-now r job goes_on =
    let task = (goes_on-exact (job_at (jobs_of r) job)).0 goes_on in
    let at = job_at-within (jobs_of r) job _ task.1 in
    record { from = at.0; within = at.1 }

pub there-after : (r : Run) (e : Occurrence) → step_refusal (job_at (jobs_of r) e.event.job) ≡ None → HasJob (and_event r e) e.event.job
there-after r e goes_on =
    let task = (goes_on-exact (job_at (jobs_of r) e.event.job)).0 goes_on in
    let here = there-now r e.event.job goes_on in
    let as_many : length (jobs_of (and_event r e)) ≡ length (jobs_of r) =
    ap (λ (m : Machine). length m.jobs) (machine-and_event r e) ∙ length-met (machine_of r) e task.0 task.1 in
    record { from = here.from; within = subst (λ n. e.event.job ≤ n) (sym as_many) here.within }
