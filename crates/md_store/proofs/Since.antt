-- Runs that go on from the one that a store was opened with.
use Rattle.std.proofs.Common.{◌≡◌, ℕ, zero, suc, ◌+◌, ◌<◌, ◌≤◌, ◌⊎◌, ⊎_elim, inl, inr, arith, List, Option, Some, None, Result, Ok, Err, IfSome, refl, sym, ap, ◌∙◌, subst, length, length-append, slice_get, get_or, MatchResult, IfOk, IfErr, OnOk}
use Rattle.std.proofs.lemmas.Option.{slice_get_cases}
use Rattle.std.specs.FinMap.{get}
use Rattle.std.specs.Option.{option_map}
use Rattle.md_dirs.specs.State.{State}
use Rattle.md_jobs.specs.declared.error.CoreError.{CoreError}
use Rattle.md_jobs.specs.declared.error.CoreError.TheVariants as core
use Rattle.md_jobs.specs.declared.call.Call.{Call}
use Rattle.md_core.specs.declared.world.submit.SubmitRefused.{SubmitRefused}
use Rattle.md_core.specs.Stepping.{IsRun}
use Rattle.md_core.specs.Interleaving.{Interleaves, IsWhole}
use Rattle.md_core.specs.Mailbox.{Entry, mailbox_of}
use Rattle.md_core.specs.Tracing.{trace_of, IsShown}
use Rattle.md_store.specs.declared.error.StoreError.{StoreError}
use Rattle.md_core.specs.Machine.{Standing, working, answered, job_at}
use Rattle.md_core.specs.Runs.{Run, dirs_of, jobs_of, and_call, effects_of, step_refusal, IsRefusal}
use Rattle.md_core.specs.Submitting.{submit_refusal}
use Rattle.md_store.specs.Calling.{RefusesSince}
use Rattle.md_store.specs.Locks.{Both, SubmitsSince, RefusesCall, ReadsSince, HoldsAll}
use Rattle.md_store.specs.Ongoing.{IsSince, GoesOn}
use Rattle.md_store.specs.Pages.{Held}

module _ (begun r : Run) (since : IsSince begun r) (run : IsRun r) where
  pub submits-since : (s : Run) (call : Call) (res : Result ℕ SubmitRefused) (Why : SubmitRefused → Type 0)
      → MatchResult res (λ _. submit_refusal r call ≡ None) Why
      → IfOk res (λ job. (s ≡ and_call r call) × (job ≡ length r.calls + 1)) → IfOk res (λ job. SubmitsSince begun call job)
  submits-since s call (Ok job) Why accepted is = record { run = r; since = since; is_run = run; accepted = accepted; number = is.1 }
  submits-since s call (Err e) Why accepted is = tt

  pub refuses-call : {A : Type 0} (call : Call) (res : Result A SubmitRefused) (Accepted : A → Type 0)
      → MatchResult res Accepted (λ y. IsRefusal (submit_refusal r call) y.error) → IfErr res (λ y. RefusesCall begun call y.error)
  refuses-call call (Ok job) Accepted why = tt
  refuses-call call (Err y) Accepted why = record { run = r; since = since; is_run = run; refused = why }

  pub reads-since : IsShown r → Interleaves (trace_of r) → (unique : List ℕ) (res : Result (Option (List ℕ)) StoreError)
      → IfOk res (λ bytes. bytes ≡ option_map (λ (e : Entry). e.bytes) (get (mailbox_of (dirs_of r)) unique))
      → IfOk res (λ bytes. ReadsSince begun unique bytes)
  reads-since shown theorem unique (Err e) is = tt
  reads-since shown theorem unique (Ok bytes) is = record {
    run = r;
    since = since;
    is_run = run;
    read = is;
    whole = subst (λ o. IfSome o (IsWhole (trace_of r) (length r.events) unique)) (sym is) (by (get (mailbox_of (dirs_of r)) unique) refl);
  }
    where
      by : (o : Option Entry) → get (mailbox_of (dirs_of r)) unique ≡ o
          → IfSome (option_map (λ (e : Entry). e.bytes) o) (IsWhole (trace_of r) (length r.events) unique)
      by None at = tt
      by (Some e) at = theorem.whole (length r.events) unique e (ap (λ (s : State). get (mailbox_of s) unique) shown.dirs ∙ at)

-- a job that is there stands somehow
stands-somehow : (x : Standing) → step_refusal (Some x) ≡ Some core.NoJob → {A : Type 0} → A
stands-somehow (working task) is = cc
stands-somehow (answered a) is = cc

-- each call of a run has its job
abbrev pub EachHasItsJob : Type 0
EachHasItsJob = (r : Run) → IsRun r → length (jobs_of r) ≡ length r.calls

-- the jobs that the store was opened with are there
no-job : EachHasItsJob → (begun r : Run) → IsSince begun r → IsRun r → (job : ℕ) → step_refusal (job_at (jobs_of r) job) ≡ Some core.NoJob
    → (job ≡ 0) ⊎ (length begun.calls < job)
no-job each begun r since run zero is = inl refl
no-job each begun r since run (suc i) is = ⊎_elim
    (λ (there : (x : Standing) × (i < length (jobs_of r)) × (slice_get (jobs_of r) i ≡ Some x) × (get_or (jobs_of r) i x ≡ x)).
    stands-somehow there.0 (ap step_refusal (sym there.2) ∙ is))
    (λ (past : (length (jobs_of r) ≤ i) × (slice_get (jobs_of r) i ≡ None)).
    inr (omega (arith, past.0, each r run, ap (λ (x : Run). length x.calls) since.is, length-append begun.calls since.calls)))
    (slice_get_cases (jobs_of r) i).1

pub no-job-since : EachHasItsJob → {A : Type 0} (begun r : Run) → IsSince begun r → IsRun r → (job : ℕ) (res : Result A CoreError) (Taken : A → Type 0)
    → MatchResult res Taken (IsRefusal (step_refusal (job_at (jobs_of r) job)))
    → IfErr res (λ e. e ≡ core.NoJob → (job ≡ 0) ⊎ (length begun.calls < job))
no-job-since each begun r since run job (Ok x) Taken why = tt
no-job-since each begun r since run job (Err e) Taken why = λ none. no-job each begun r since run job (by (step_refusal (job_at (jobs_of r) job)) why none)
  where
    by : (o : Option CoreError) → IsRefusal o e → e ≡ core.NoJob → o ≡ Some core.NoJob
    by None memory none = let never : core.NoMemory ≡ core.NoJob = sym memory ∙ none in cc
    by (Some x) is none = ap Some (sym is ∙ none)

pub refuses-since : {A : Type 0} (begun held r : Run) → IsSince begun r → GoesOn held r → IsRun r → (job : ℕ) (res : Result A CoreError) (Taken : A → Type 0)
    → MatchResult res Taken (IsRefusal (step_refusal (job_at (jobs_of r) job))) → IfErr res (RefusesSince begun held job)
refuses-since begun held r since goes run job (Ok x) Taken why = tt
refuses-since begun held r since goes run job (Err e) Taken why = record { run = r; since = since; goes = goes; is_run = run; refused = why }

pub holds-all : (s : Both) (after : Held) (res : Result (Unit {0}) StoreError) → OnOk res ((s.published ≡ effects_of s.run) × (after.history ≡ s.published))
    → OnOk res (after.run ≡ s.run) → OnOk res (HoldsAll after)
holds-all s after (Ok u) all same = all.1 ∙ (all.0 ∙ ap effects_of (sym same))
holds-all s after (Err e) all same = tt
