-- Runs event by event: their moments, and that a call which is submitted later changes nothing of them.
use Rattle.std.proofs.Common.{ℕ, zero, suc, ◌≡◌, ◌≤◌, ◌+◌, ◌++◌, List, [], ◌∷◌, Some, refl, sym, ap, subst, ◌∙◌, take, length, slice_get, arith}
use Rattle.std.proofs.lemmas.List.{map-append, length-map, take_all, take-append-le}
use Rattle.md_core.proofs.Values.{Call, Task, Machine, working, Occurrence, job_at, new_job, after_event, IsRun}
use Rattle.md_core.specs.Runs.{Run, beginning, run_from, machine_at, machine_of, jobs_of, and_event, and_call}
use Rattle.md_core.proofs.Lists.Places.{at_place, take-one_more, length-changed}
use Rattle.md_core.proofs.Runs.Events.{goes_on-exact, happens-turned, with_job, happens-with_job}

pub run_from-append : (m : Machine) (es fs : List Occurrence) → run_from m (es ++ fs) ≡ run_from (run_from m es) fs
unfolding run_from
run_from-append m [] fs = refl
run_from-append m (e ∷ es) fs = run_from-append (after_event m e) es fs

pub run_from-more_event : (m : Machine) (es : List Occurrence) (e : Occurrence) → run_from m (es ++ e ∷ []) ≡ after_event (run_from m es) e
unfolding run_from
run_from-more_event m es e = run_from-append m es (e ∷ [])

pub run_from-none : (m : Machine) → run_from m [] ≡ m
unfolding run_from
run_from-none m = refl

-- the moments of a run
pub moment-start : (r : Run) → machine_at r 0 ≡ beginning r.image r.clock r.calls
moment-start r = run_from-none (beginning r.image r.clock r.calls)

pub moment-more : (r : Run) (k : ℕ) (e : Occurrence) → slice_get r.events k ≡ Some e → machine_at r (k + 1) ≡ after_event (machine_at r k) e
moment-more r k e at = ap (run_from (beginning r.image r.clock r.calls)) (take-one_more r.events k e at) ∙
    run_from-more_event (beginning r.image r.clock r.calls) (take k r.events) e

-- after the last event there is no other moment
pub moment-past : (r : Run) (k : ℕ) → length r.events ≤ k → machine_at r k ≡ machine_of r
moment-past r k past = ap (run_from (beginning r.image r.clock r.calls)) (take_all k r.events past)

pub moment-end : (r : Run) → machine_at r (length r.events) ≡ machine_of r
moment-end r = moment-past r (length r.events) (omega arith)

pub moment-over : (r : Run) (k : ℕ) → length r.events ≤ k → machine_at r (k + 1) ≡ machine_at r k
moment-over r k past = moment-past r (k + 1) (omega arith) ∙ sym (moment-past r k past)

-- a run goes on by one event, and by more
pub machine-and_event : (r : Run) (e : Occurrence) → machine_of (and_event r e) ≡ after_event (machine_of r) e
machine-and_event r e = run_from-more_event (beginning r.image r.clock r.calls) r.events e

pub moment-and_event : (r : Run) (e : Occurrence) (k : ℕ) → k ≤ length r.events → machine_at (and_event r e) k ≡ machine_at r k
moment-and_event r e k within = ap (run_from (beginning r.image r.clock r.calls)) (take-append-le k r.events (e ∷ []) within)

-- What holds at the beginning, and is kept by each event of a job that is there and has no answer, holds at each moment.
module _ (r : Run) (run : IsRun r) (P : List Occurrence → Machine → Type 0) (start : P [] (beginning r.image r.clock r.calls))
    (step : (es : List Occurrence) (m : Machine) (e : Occurrence) (task : Task) → job_at m.jobs e.event.job ≡ Some (working task) → P es m →
    P (es ++ e ∷ []) (after_event m e)) where
  pub at_moment : (k : ℕ) → P (take k r.events) (machine_at r k)
  at_moment zero = subst (P []) (sym (moment-start r)) start
  at_moment (suc k) =
      let e1 : k + 1 ≡ suc k = omega arith in
      subst (λ (n : ℕ). P (take n r.events) (machine_at r n)) e1 (at_place r.events k
      (λ e at.
      let goes = (goes_on-exact (job_at (machine_at r k).jobs e.event.job)).0 (run.taken k e at) in
      subst (λ (es : List Occurrence). P es (machine_at r (k + 1))) (sym (take-one_more r.events k e at))
      (subst (P (take k r.events ++ e ∷ [])) (sym (moment-more r k e at)) (step (take k r.events) (machine_at r k) e goes.0 goes.1 (at_moment k))))
      (λ past.
      let same : take k r.events ≡ take (k + 1) r.events = take_all k r.events past ∙ sym (take_all (k + 1) r.events (omega arith)) in
      subst (λ (es : List Occurrence). P es (machine_at r (k + 1))) same (subst (P (take k r.events)) (sym (moment-over r k past)) (at_moment k))))

  pub at_last : P r.events (machine_of r)
  at_last = subst (λ (es : List Occurrence). P es (run_from (beginning r.image r.clock r.calls) es)) (take_all (length r.events) r.events (omega arith))
      (at_moment (length r.events))

-- each call has its job
pub length-met : (m : Machine) (e : Occurrence) (task : Task) → job_at m.jobs e.event.job ≡ Some (working task) → length (after_event m e).jobs ≡ length m.jobs
length-met m e task at = ap (λ (x : Machine). length x.jobs) (happens-turned m e task at) ∙ length-changed m.jobs _ _

pub length-jobs : (r : Run) → IsRun r → (k : ℕ) → length (machine_at r k).jobs ≡ length r.calls
length-jobs r run = at_moment r run (λ es m. length m.jobs ≡ length r.calls) (length-map r.calls new_job)
    (λ es m e task at is. length-met m e task at ∙ is)

pub length-jobs_of : (r : Run) → IsRun r → length (jobs_of r) ≡ length r.calls
length-jobs_of r run = ap (λ (m : Machine). length m.jobs) (sym (moment-end r)) ∙ length-jobs r run (length r.events)

-- a call that is submitted after some events might have been submitted before them
module _ (r : Run) (run : IsRun r) (call : Call) where
  abbrev start' : Machine
  start' = beginning r.image r.clock (r.calls ++ call ∷ [])

  start-with_job : start' ≡ with_job (beginning r.image r.clock r.calls) (new_job call)
  start-with_job = λ i. record { dirs = r.image; clock = (beginning r.image r.clock r.calls).clock; jobs = map-append new_job r.calls (call ∷ []) i; effects = [] }

  abbrev Goes : List Occurrence → Machine → Type 0
  Goes es m = run_from start' es ≡ with_job m (new_job call)

  goes-start : Goes [] (beginning r.image r.clock r.calls)
  goes-start = run_from-none start' ∙ start-with_job

  goes-more : (es : List Occurrence) (m : Machine) (e : Occurrence) (task : Task) → job_at m.jobs e.event.job ≡ Some (working task) → Goes es m →
      Goes (es ++ e ∷ []) (after_event m e)
  goes-more es m e task at is = run_from-more_event start' es e ∙ ap (λ (x : Machine). after_event x e) is ∙ happens-with_job m (new_job call) (working task) e at

  pub moment-and_call : (k : ℕ) → machine_at (and_call r call) k ≡ with_job (machine_at r k) (new_job call)
  moment-and_call = at_moment r run Goes goes-start goes-more

  pub machine-and_call : machine_of (and_call r call) ≡ with_job (machine_of r) (new_job call)
  machine-and_call = at_last r run Goes goes-start goes-more
