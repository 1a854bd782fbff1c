-- A run with one more event or call is a run, and so is a beginning.
use Rattle.std.proofs.Common.{ℕ, ◌≡◌, ◌≤◌, List, [], ◌∷◌, Some, None, sym, ap, ◌∙◌, length, take, arith}
use Rattle.std.proofs.lemmas.List.{take_at, take-take, take-append-le}
use Rattle.std.proofs.lemmas.Option.{slice_get_within}
use Rattle.md_core.proofs.Values.{State, IsSound, Call, Machine, working, Occurrence, job_at, new_job, Run, first_clock, beginning, run_from, machine_at, machine_of, jobs_of, and_event, and_call, step_refusal, IsRun, load_refusal, submit_refusal}
use Rattle.md_core.proofs.Lists.Places.{at_end, get-from_take}
use Rattle.md_core.proofs.Runs.Events.{goes_on-exact, job_at-more}
use Rattle.md_core.proofs.Runs.ByEvent.{moment-end, moment-and_event, moment-and_call}

-- a run of no call and no event
pub is_run-begun : (image : State) (clock failures calls_made : ℕ) → IsSound image → load_refusal image ≡ None → first_clock image ≤ clock →
    IsRun (record { image = image; clock = clock; failures = failures; calls_made = calls_made; calls = []; events = [] })
is_run-begun image clock failures calls_made sound loaded stamped = record {
  sound = sound;
  loaded = loaded;
  stamped = stamped;
  accepted = λ i call at. cc;
  taken = λ k e at. cc;
}

pub is_run-and_event : (r : Run) (e : Occurrence) → IsRun r → step_refusal (job_at (jobs_of r) e.event.job) ≡ None → IsRun (and_event r e)
is_run-and_event r e run goes = record {
  sound = run.sound;
  loaded = run.loaded;
  stamped = run.stamped;
  accepted = run.accepted;
  taken = λ k f at. at_end r.events e k f at
      (λ early. ap (λ (m : Machine). step_refusal (job_at m.jobs f.event.job))
      (moment-and_event r e k (let h = slice_get_within r.events k f early in omega arith)) ∙ run.taken k f early)
      (λ last is.
      let now : machine_at (and_event r e) k ≡ machine_of r = ap (machine_at (and_event r e)) last ∙ moment-and_event r e (length r.events) (omega arith) ∙
      moment-end r in
      ap (λ (m : Machine). step_refusal (job_at m.jobs f.event.job)) now ∙ ap (λ (x : Occurrence). step_refusal (job_at (jobs_of r) x.event.job)) is ∙ goes);
}

-- the first events of a run are a run
pub is_run-first : (r : Run) → IsRun r → (k : ℕ) → IsRun (record r { events = take k r.events })
is_run-first r run k = record {
  sound = run.sound;
  loaded = run.loaded;
  stamped = run.stamped;
  accepted = run.accepted;
  taken = λ i e at.
      let early = get-from_take k r.events i e at in
      let same : machine_at (record r { events = take k r.events }) i ≡ machine_at r i =
      ap (run_from (beginning r.image r.clock r.calls)) (take-take i k r.events (omega (arith, early.0))) in
      ap (λ (m : Machine). step_refusal (job_at m.jobs e.event.job)) same ∙ run.taken i e early.1;
}

pub is_run-and_call : (r : Run) (call : Call) → IsRun r → submit_refusal r call ≡ None → IsRun (and_call r call)
is_run-and_call r call run accepted = record {
  sound = run.sound;
  loaded = run.loaded;
  stamped = run.stamped;
  accepted = λ i c at. at_end r.calls call i c at
      (λ early. ap (λ (cs : List Call). submit_refusal (record r { calls = cs }) c)
      (take-append-le i r.calls (call ∷ []) (let h = slice_get_within r.calls i c early in omega arith)) ∙ run.accepted i c early)
      (λ last is. ap (λ (cs : List Call). submit_refusal (record r { calls = cs }) c) (take_at r.calls (call ∷ []) i (sym last)) ∙
      ap (submit_refusal r) is ∙ accepted);
  taken = λ k e at.
      let goes = (goes_on-exact (job_at (machine_at r k).jobs e.event.job)).0 (run.taken k e at) in
      let there : job_at (machine_at (and_call r call) k).jobs e.event.job ≡ Some (working goes.0) =
      ap (λ (m : Machine). job_at m.jobs e.event.job) (moment-and_call r run call k) ∙
      job_at-more (machine_at r k).jobs (new_job call ∷ []) e.event.job (working goes.0) goes.1 in
      (goes_on-exact (job_at (machine_at (and_call r call) k).jobs e.event.job)).1 (goes.0, there);
}
