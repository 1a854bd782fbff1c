-- What a pass holds after a step.
use Rattle.std.proofs.Common.{ℕ, zero, suc, ◌≡◌, Bool, true, false, cond, List, [], ◌∷◌, ◌++◌, Option, Some, None, filter, slice_get, refl, sym, ap, subst, ◌∙◌, ◌≤◌, ◌⊎◌, ⊎_elim, length, Result, Ok, Err, MatchResult, IfOk, IfSome, OnOk, arith}
use Rattle.std.specs.Prelude.{◌==◌}
use Rattle.std.proofs.lemmas.Bool.Decides.{nat_tests}
use mathlib.Core.List.{IsPrefix}
use Rattle.md_jobs.specs.declared.answer.Answer.{Answer}
use Rattle.md_jobs.specs.declared.effect.Effect.{Effect}
use Rattle.md_jobs.specs.declared.step.StepOut.{StepOut}
use Rattle.md_core.specs.Trace.{IsAnswered}
use Rattle.md_core.specs.Tracing.{trace_of, GrowsByStep}
use Rattle.md_jobs.specs.Asked.{is_fault}
use Rattle.md_core.specs.Machine.{Occurrence, occurrence, job_at}
use Rattle.md_core.specs.Runs.{Run, jobs_of, and_event, effects_of, step_refusal}
use Rattle.md_core.specs.Stepping.{IsRun, ShowsStep, Succeeds}
use Rattle.md_jobs.specs.declared.error.CoreError.{CoreError}
use Rattle.md_store.specs.declared.step.StoreStep.{StoreStep}
use Rattle.md_store.specs.declared.step.News.{News}
use Rattle.md_store.specs.declared.step.News.TheVariants.{NoEffect, Told, Later}
use Rattle.md_store.specs.Locks.{Both, Tells, Stands, HoldsAfter, TellsSince}
use Rattle.md_store.specs.Ongoing.{IsSince, GoesOn}
use Rattle.md_store.specs.Pages.{Held}
use Rattle.md_core.proofs.Traces.Grown.{grows-by-step}
use Rattle.md_store.proofs.Beginnings.{all_of_it, no_longer}

-- the first that passes
first_of : (p : Effect → Bool) (xs : List Effect) (e : Effect) (rest : List Effect) → filter p xs ≡ e ∷ rest →
    (k : ℕ) × (slice_get xs k ≡ Some e) × (p e ≡ true)
first_of p [] e rest is = cc
first_of p (x ∷ xs) e rest is = by (λ h. first_of p xs e rest h) (p x) refl is
  where
    by : (filter p xs ≡ e ∷ rest → (k : ℕ) × (slice_get xs k ≡ Some e) × (p e ≡ true)) → (b : Bool) → p x ≡ b →
        cond b (x ∷ filter p xs) (filter p xs) ≡ e ∷ rest → (k : ℕ) × (slice_get (x ∷ xs) k ≡ Some e) × (p e ≡ true)
    by more true t h = let same : x ≡ e = cc in (zero, ap Some same, ap p (sym same) ∙ t)
    by more false t h = let r = more h in (suc r.0, r.1, r.2)

same_number : (a b : ℕ) → (a == b) ≡ true → a ≡ b
same_number a b h = grind (arith, nat_tests)

-- the effect of a successful answer stands in the effects
pub stands : (r : Run) (job : ℕ) (a : Option Answer) (now : List Effect) → Succeeds r job a → now ≡ effects_of r → Stands a job now
stands r job None now s all = tt
stands r job (Some a) now s all = λ success.
    let e = s success in
    let at = first_of (λ x. x.job == job) (effects_of r) e.0 [] e.1 in
    (e.0, at.0, ap (λ (l : List Effect). slice_get l at.0) all ∙ at.1, same_number e.0.job job at.2, e.2)

-- what holds no more than all, and then begins with all, where it is one of both, is all
pub exactly : (before all now : List Effect) → IsPrefix before all → IsPrefix all now → (now ≡ before) ⊎ (now ≡ all) → now ≡ all
exactly before all now within told one = ⊎_elim
    (λ (same : now ≡ before). same ∙ all_of_it before all within (subst (λ (l : List Effect). length all ≤ length l) same (no_longer all now told)))
    (λ (same : now ≡ all). same) one

-- what a step told, as the pass holds it
pub holds : (news : News) (effect : Bool) (s : Both) (job : ℕ) (before now : List Effect) → Tells news effect s job before now →
    HoldsAfter news (effects_of s.run) before now
holds NoEffect effect s job before now t = t.2 ∙ t.1
holds Told effect s job before now t = t.3 ∙ t.1
holds Later effect s job before now t = t.3

pub at-end : {A : Type 0} (xs : List A) (x : A) → slice_get (xs ++ x ∷ []) (length xs) ≡ Some x
at-end [] x = refl
at-end (y ∷ xs) x = at-end xs x

-- an answer that a step gave is that of its job
answers : (r s : Run) (job : ℕ) (out : StepOut) → GrowsByStep (trace_of r) (trace_of s) job out → IfSome out.answer (IsAnswered (trace_of s) job)
answers r s job out grows = by out.answer refl
  where
    by : (o : Option Answer) → out.answer ≡ o → IfSome o (IsAnswered (trace_of s) job)
    by None is = tt
    by (Some a) is =
        let steps = (trace_of r).steps in
        record {
          k = length steps;
          last = record { step = grows.step; at = ap (λ xs. slice_get xs (length steps)) grows.steps ∙ at-end steps grows.step; own = grows.own };
          answer = sym grows.shown.answer ∙ is;
        }

pub tells-since : (begun r : Run) (s : Both) → IsSince begun r → IsRun r → (job now : ℕ) (own : Option ℕ) (res : Result StoreStep CoreError) (Why : CoreError → Type 0)
    → MatchResult res (λ _. step_refusal (job_at (jobs_of r) job) ≡ None) Why
    → IfOk res (λ x. s.run ≡ and_event r (occurrence job now own (is_fault x.out.reply)))
    → IfOk res (λ x. ShowsStep r s.run (occurrence job now own (is_fault x.out.reply)) x.out)
    → (before after : Held) → GoesOn before.run r → OnOk res (after.run ≡ s.run)
    → IfOk res (λ x. Tells x.news x.out.effect s job before.history after.history)
    → IfOk res (λ x. TellsSince begun job now own x before after)
tells-since begun r s since run job now own (Ok x) Why taken is shows before after goes same told =
    let e : Occurrence = occurrence job now own (is_fault x.out.reply) in
    let shown : ShowsStep r (and_event r e) e x.out = subst (λ (t : Run). ShowsStep r t e x.out) is shows in
    let grows : GrowsByStep (trace_of r) (trace_of s.run) job x.out =
    subst (λ (t : Run). GrowsByStep (trace_of r) (trace_of t) job x.out) (sym is) (grows-by-step r e x.out shown) in
    record {
      step = record { run = r; since = since; goes = goes; is_run = run; taken = taken; shows = shown };
      run = same ∙ is;
      told = subst (λ (t : Run). HoldsAfter x.news (effects_of t) before.history after.history) (sym same)
          (holds x.news x.out.effect s job before.history after.history told);
      answered = subst (λ (t : Run). IfSome x.out.answer (IsAnswered (trace_of t) job)) (sym same) (answers r s.run job x.out grows);
    }
tells-since begun r s since run job now own (Err e) Why taken is shows before after goes same told = tt
