-- What the steps of a call tell.
use Rattle.std.proofs.Common.{◌≡◌, ◌≤◌, ℕ, zero, suc, List, [], ◌∷◌, ◌++◌, Option, Some, None, Result, Ok, Err, IfOk, IfErr, MatchResult, refl, sym, ap, ◌∙◌, subst, inl, inr, ⊎_elim, ◌⊎◌, ◌<◌, ◌+◌, length, slice_get, get_or, arith}
use Rattle.std.proofs.lemmas.Option.{slice_get_cases}
use Rattle.md_jobs.specs.declared.error.CoreError.{CoreError}
use Rattle.md_jobs.specs.declared.error.CoreError.TheVariants as core
use Rattle.md_jobs.specs.declared.answer.Answer.{Answer}
use Rattle.md_jobs.specs.declared.call.Call.{Call}
use Rattle.md_jobs.specs.declared.step.StepOut.{StepOut}
use Rattle.md_core.specs.declared.world.submit.SubmitRefused.{SubmitRefused}
use Rattle.md_core.specs.Interleaving.{Interleaves}
use Rattle.md_core.specs.Machine.{Standing, working, answered, job_at}
use Rattle.md_core.specs.Runs.{Run, jobs_of, and_call, step_refusal, IsRefusal}
use Rattle.md_core.specs.Submitting.{submit_refusal}
use Rattle.md_core.specs.Stepping.{IsRun}
use Rattle.md_core.specs.Trace.{call_at}
use Rattle.md_core.specs.Tracing.{trace_of}
use Rattle.md_store.specs.declared.calling.CallError.{CallError}
use Rattle.md_store.specs.declared.calling.CallError.TheVariants.{Refused, NoMemory, Unanswered, Untold}
use Rattle.md_store.specs.Calling.{RefusesSince, Accepts, StopsCall, GivesSince, AnswersCall, Answers, Leaves, Stops, Ends, plain_refusal, IsWhy}
use Rattle.md_store.specs.Locks.{StepsSince, Stands}
use Rattle.md_store.specs.Ongoing.{IsSince, GoesOn}
use Rattle.md_store.specs.Pages.{Held}
use Rattle.md_store.proofs.Ongoing.{goes_later}
use Rattle.md_store.proofs.Since.{EachHasItsJob}
use Rattle.md_store.proofs.Told.{at-end}

-- a job that took a step was there before it, and had no answer
pub open-since : (begun held : Run) (job now : ℕ) (own : Option ℕ) (out : StepOut) → StepsSince begun held job now own out → RefusesSince begun held job core.NoMemory
open-since begun held job now own out s = record {
  run = s.run;
  since = s.since;
  goes = s.goes;
  is_run = s.is_run;
  refused = let P : Option CoreError → Type 0 = λ o. IsRefusal o core.NoMemory in subst P (sym s.taken) refl;
}

abbrev pub refuses-earlier : (begun early late : Run) (job : ℕ) (e : CoreError) → GoesOn early late → RefusesSince begun late job e → RefusesSince begun early job e
refuses-earlier begun early late job e goes s =
    record { run = s.run; since = s.since; goes = goes_later early late s.run goes s.goes; is_run = s.is_run; refused = s.refused }

steps-earlier : (begun early late : Run) (job now : ℕ) (own : Option ℕ) (out : StepOut) → GoesOn early late → StepsSince begun late job now own out
    → StepsSince begun early job now own out
steps-earlier begun early late job now own out goes s =
    record { run = s.run; since = s.since; goes = goes_later early late s.run goes s.goes; is_run = s.is_run; taken = s.taken; shows = s.shows }

gives-earlier : (begun early late end : Run) (job now : ℕ) (own : Option ℕ) (a : Answer) → GoesOn early late → GivesSince begun late end job now own a
    → GivesSince begun early end job now own a
gives-earlier begun early late end job now own a goes s =
    record { out = s.out; stepped = steps-earlier begun early late job now own s.out goes s.stepped; answer = s.answer; answered = s.answered }

module _ (begun : Run) (early late after : Held) (job now : ℕ) (own : Option ℕ) (goes : GoesOn early.run late.run) where
  stops-earlier : (e : CallError) → Stops begun job now own e late after → Stops begun job now own e early after
  stops-earlier (Refused r) s = s
  stops-earlier (NoMemory j) s = (s.0, refuses-earlier begun early.run late.run job core.NoMemory goes s.1)
  stops-earlier (Unanswered j) s = (
    s.0,
    ⊎_elim (λ (x : RefusesSince begun late.run job core.Answered). inl (refuses-earlier begun early.run late.run job core.Answered goes x))
        (λ (x : RefusesSince begun late.run job core.NoJob). inr (refuses-earlier begun early.run late.run job core.NoJob goes x)) s.1,
  )
  stops-earlier (Untold j a) s = (s.0, gives-earlier begun early.run late.run after.run job now own a goes s.1)

  -- what ends a call at a later step ends it
  pub gives-ended : (res : Result Answer CallError) → Ends begun job now own (Some res) late after
      → IfOk res (λ a. GivesSince begun early.run after.run job now own a × Stands (Some a) job after.history)
  gives-ended (Ok a) s = (gives-earlier begun early.run late.run after.run job now own a goes s.0, s.1)
  gives-ended (Err e) s = tt

  pub stops-ended : (res : Result Answer CallError) → Ends begun job now own (Some res) late after → IfErr res (λ e. Stops begun job now own e early after)
  stops-ended (Ok a) s = tt
  stops-ended (Err e) s = stops-earlier e s

get-more : {A : Type 0} (xs ys : List A) (i : ℕ) (x : A) → slice_get xs i ≡ Some x → slice_get (xs ++ ys) i ≡ Some x
get-more [] ys i x is = cc
get-more (y ∷ xs) ys zero x is = is
get-more (y ∷ xs) ys (suc i) x is = get-more xs ys i x is

-- a run that goes on keeps the calls of its jobs
pub keeps-call : (early late : Run) → GoesOn early late → (job : ℕ) (call : Call) → call_at early.calls job ≡ Some call → call_at late.calls job ≡ Some call
keeps-call early late goes zero call is = cc
keeps-call early late goes (suc i) call is =
    ap (λ (r : Run). slice_get r.calls i) goes.since.is ∙ get-more early.calls goes.since.calls i call is

-- the job of a call is there
is-there : EachHasItsJob → (r : Run) → IsRun r → (job : ℕ) (call : Call) → call_at r.calls job ≡ Some call → IsRefusal (step_refusal (job_at (jobs_of r) job)) core.NoJob
    → {A : Type 0} → A
is-there each r run zero call at why = cc
is-there each r run (suc k) call at why = ⊎_elim
    (λ (here : (x : Standing) × (k < length (jobs_of r)) × (slice_get (jobs_of r) k ≡ Some x) × (get_or (jobs_of r) k x ≡ x)).
    stands-otherwise here.0 (subst (λ (o : Option Standing). IsRefusal (step_refusal o) core.NoJob) here.2 why))
    (λ (past : (length (jobs_of r) ≤ k) × (slice_get (jobs_of r) k ≡ None)). outside past.0)
    (slice_get_cases (jobs_of r) k).1
  where
    stands-otherwise : (x : Standing) → IsRefusal (step_refusal (Some x)) core.NoJob → {A : Type 0} → A
    stands-otherwise (working task) is = cc
    stands-otherwise (answered a) is = cc

    outside : length (jobs_of r) ≤ k → {A : Type 0} → A
    outside past = ⊎_elim
        (λ (here : (x : Call) × (k < length r.calls) × (slice_get r.calls k ≡ Some x) × (get_or r.calls k x ≡ x)).
        absurd (omega (arith, here.1, past, each r run)))
        (λ (none : (length r.calls ≤ k) × (slice_get r.calls k ≡ None)). cc (none.1, at))
        (slice_get_cases r.calls k).1

module _ (each : EachHasItsJob) (theorem : (r : Run) → IsRun r → Interleaves (trace_of r)) (begun : Run) (folders : ℕ) (call : Call) (now : ℕ) (own : Option ℕ)
    (before taken after : Held) (job : ℕ) (first : GoesOn before.run taken.run) (goes : GoesOn taken.run after.run) (run : IsRun after.run)
    (accepts : Accepts begun taken.run folders call job) where
  accepted : Accepts begun after.run folders call job
  accepted = record { submitted = accepts.submitted; checked = accepts.checked; whose = keeps-call taken.run after.run goes job call accepts.whose }

  stops-call : (e : CoreError) → RefusesSince begun taken.run job e → StopsCall begun before.run job call e
  stops-call e s = record { refused = refuses-earlier begun before.run taken.run job e first s; whose = keeps-call taken.run s.run s.goes job call accepts.whose }

  answers-call : (a : Answer) → GivesSince begun taken.run after.run job now own a → AnswersCall after.run job call a
  answers-call a s = let t = theorem after.run run in
      record { acts = t.acts job call a accepted.whose s.answered; says = t.says job call a accepted.whose s.answered }

  pub answers : (res : Result Answer CallError) → IfOk res (λ a. GivesSince begun taken.run after.run job now own a × Stands (Some a) job after.history)
      → IfOk res (λ a. Answers begun folders call now own a before after)
  answers (Ok a) s = record {
    job = job;
    accepted = accepted;
    given = gives-earlier begun before.run taken.run after.run job now own a first s.0;
    answers = answers-call a s.0;
    stands = s.1;
  }
  answers (Err e) s = tt

  leaves-by : (e : CallError) → Stops begun job now own e taken after → Leaves begun folders call now own e before after
  leaves-by (Refused r) s = absurd s
  leaves-by (NoMemory j) s = subst (λ n. Accepts begun after.run folders call n × StopsCall begun before.run n call core.NoMemory) (sym s.0)
      (accepted, stops-call core.NoMemory s.1)
  leaves-by (Unanswered j) s = subst (λ n. Accepts begun after.run folders call n × StopsCall begun before.run n call core.Answered) (sym s.0) (
    accepted,
    ⊎_elim (λ (x : RefusesSince begun taken.run job core.Answered). stops-call core.Answered x)
        (λ (x : RefusesSince begun taken.run job core.NoJob).
        is-there each x.run x.is_run job call (keeps-call taken.run x.run x.goes job call accepts.whose) x.refused) s.1,
  )
  leaves-by (Untold j a) s =
      subst (λ n. Accepts begun after.run folders call n × GivesSince begun before.run after.run n now own a × AnswersCall after.run n call a) (sym s.0)
      (accepted, gives-earlier begun before.run taken.run after.run job now own a first s.1, answers-call a s.1)

  pub leaves : (res : Result Answer CallError) → IfErr res (λ e. Stops begun job now own e taken after) → IfErr res (λ e. Leaves begun folders call now own e before after)
  leaves (Ok a) s = tt
  leaves (Err e) s = leaves-by e s

-- the call that was submitted last is that of the last job
new-call : (r : Run) (call : Call) → call_at (r.calls ++ call ∷ []) (length r.calls + 1) ≡ Some call
new-call r call =
    let next : length r.calls + 1 ≡ suc (length r.calls) = omega arith in
    ap (call_at (r.calls ++ call ∷ [])) next ∙ at-end r.calls call

module _ (begun r late : Run) (since : IsSince begun r) (run : IsRun r) (folders : ℕ) (call : Call) where
  pub accepts : (res : Result ℕ SubmitRefused) → MatchResult res (λ _. submit_refusal r call ≡ None) (λ y. IsRefusal (submit_refusal r call) y.error)
      → MatchResult res (λ _. plain_refusal folders call ≡ None) (λ y. IsWhy call (plain_refusal folders call) y.error)
      → IfOk res (λ job. (late ≡ and_call r call) × (job ≡ length r.calls + 1)) → IfOk res (λ job. Accepts begun late folders call job)
  accepts (Ok job) taken checked is = record {
    submitted = record { run = r; since = since; is_run = run; accepted = taken; number = is.1 };
    checked = checked;
    whose = ap (λ (x : Run). call_at x.calls job) is.0 ∙ (ap (call_at (r.calls ++ call ∷ [])) is.1 ∙ new-call r call);
  }
  accepts (Err e) taken checked is = tt

  pub comes-back : (res : Result ℕ SubmitRefused)
      → MatchResult res (λ _. plain_refusal folders call ≡ None) (λ y. IsWhy call (plain_refusal folders call) y.error)
      → IfErr res (λ y. y.call ≡ call) → IfErr res (λ y. (y.call ≡ call) × IsWhy call (plain_refusal folders call) y.error)
  comes-back (Ok job) checked is = tt
  comes-back (Err e) checked is = (is, checked)
