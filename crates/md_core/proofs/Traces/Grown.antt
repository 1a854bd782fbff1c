-- The trace of a run grows by what its next event does.
use Rattle.std.proofs.Common.{◌≡◌, ◌++◌, Option, Some, None, refl, sym, ap, ◌∙◌}
use Rattle.md_core.proofs.Values.{StepOut, Task, Step, Occurrence, job_at, task_of, step_of, step_by, Run, beginning, machine_of, and_event, deeds_from, trace_of, GrowsByStep, ShowsStep, option_to_list, option_map}
use Rattle.md_core.proofs.Traces.Same.{deeds-more}

-- what an event did is of its job
own-done : (r : Run) (e : Occurrence) (d : Step) → step_of (machine_of r) e ≡ Some d → d.job ≡ e.event.job
own-done r e d is = by (task_of (job_at (machine_of r).jobs e.event.job)) is
  where
    by : (o : Option Task) → option_map (step_by (machine_of r) e) o ≡ Some d → d.job ≡ e.event.job
    by None h = cc
    by (Some task) h = let same : step_by (machine_of r) e task ≡ d = cc in ap (λ (x : Step). x.job) (sym same)

pub grows-by-step : (r : Run) (e : Occurrence) (out : StepOut) → ShowsStep r (and_event r e) e out →
    GrowsByStep (trace_of r) (trace_of (and_event r e)) e.event.job out
grows-by-step r e out shows =
    let m = beginning r.image r.clock r.calls in
    record {
      step = shows.what;
      steps = deeds-more m r.events e ∙ ap (λ (o : Option Step). deeds_from m r.events ++ option_to_list o) shows.at;
      image = refl;
      calls = refl;
      own = own-done r e shows.what shows.at;
      shown = record {
        call = ap (λ (o : StepOut). o.call) shows.shown;
        reply = ap (λ (o : StepOut). o.reply) shows.shown;
        answer = ap (λ (o : StepOut). o.answer) shows.shown;
        effect = ap (λ (o : StepOut). o.effect) shows.shown;
      };
    }
