-- What a world shows is what the trace of its run says.
use Rattle.std.proofs.Common.{ℕ, ◌≡◌, Option, Some, None, refl, sym, ap, ◌∙◌, length}
use Rattle.md_core.proofs.Values.{Answer, Machine, Standing, working, answered, job_at, Run, dirs_of, jobs_of, effects_of, answer_of, IsRun, IsAnswered, state, effects, trace_of, IsShown}
use Rattle.md_core.proofs.Runs.ByEvent.{moment-end}
use Rattle.md_core.proofs.Traces.Same.{many-steps, state-same, effects-same}
use Rattle.md_core.proofs.Traces.Clock.{logged}
use Rattle.md_core.proofs.Traces.Stands.{answered-of, answered-at}

module _ (r : Run) (run : IsRun r) where
  pub shown-dirs : state (trace_of r) (length (trace_of r).steps) ≡ dirs_of r
  shown-dirs = ap (state (trace_of r)) (many-steps r run) ∙ state-same r run (length r.events) ∙ ap (λ (m : Machine). m.dirs) (moment-end r)

  pub shown-effects : effects (trace_of r) (length (trace_of r).steps) ≡ effects_of r
  shown-effects = ap (effects (trace_of r)) (many-steps r run) ∙ effects-same r run (length r.events) ∙ ap (λ (m : Machine). m.effects) (moment-end r)

  pub shown-answer : (job : ℕ) (a : Answer) → answer_of (job_at (jobs_of r) job) ≡ Some a → IsAnswered (trace_of r) job a
  shown-answer job a is = by (job_at (jobs_of r) job) refl is
    where
      by : (o : Option Standing) → job_at (jobs_of r) job ≡ o → answer_of o ≡ Some a → IsAnswered (trace_of r) job a
      by None there h = cc
      by (Some (working task)) there h = cc
      by (Some (answered b)) there h = answered-of r run job a (there ∙ (let e : Some (answered b) ≡ Some (answered a) = cc in e))

  pub shown : IsShown r
  shown = record {
    steps = many-steps r run;
    logged = logged r run;
    dirs = ap (state (trace_of r)) (sym (many-steps r run)) ∙ shown-dirs;
    effects = ap (effects (trace_of r)) (sym (many-steps r run)) ∙ shown-effects;
    answer = shown-answer;
    answered = λ job a is. ap answer_of (answered-at r run job a is);
  }
