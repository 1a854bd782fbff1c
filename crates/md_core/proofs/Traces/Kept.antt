-- Earlier moments stay as they were, whatever steps and calls come.
use Rattle.std.proofs.Common.{◌≤◌, List, sym, ap, ◌∙◌, length, take, arith}
use Rattle.std.proofs.lemmas.List.{take-append-le}
use Rattle.md_core.proofs.Values.{Call, Machine, Occurrence, state_after, Run, beginning, run_from, and_events, and_call, IsRun, deeds_from, trace_of, KeepsStates}
use Rattle.md_core.proofs.Runs.ByEvent.{moment-and_call}
use Rattle.md_core.proofs.Traces.Same.{deeds-append, many-steps, state-same}

module _ (r : Run) (run : IsRun r) where
  pub steps-keep : (es : List Occurrence) → KeepsStates r (and_events r es)
  steps-keep es k within =
      let many = many-steps r run in
      let more = deeds_from (run_from (beginning r.image r.clock r.calls) r.events) es in
      let inside : k ≤ length (trace_of r).steps = omega (arith, many, within) in
      ap (state_after r.image) (ap (take k) (deeds-append (beginning r.image r.clock r.calls) r.events es) ∙ take-append-le k (trace_of r).steps more inside)

  pub call-keeps : (call : Call) → IsRun (and_call r call) → KeepsStates r (and_call r call)
  call-keeps call later k within =
      state-same (and_call r call) later k ∙ ap (λ (m : Machine). m.dirs) (moment-and_call r run call k) ∙ sym (state-same r run k)
