use Rattle.std.proofs.Common.{inl, inr, sym, subst}
use Rattle.md_core.specs.Runs.{Run}
use Rattle.md_core.specs.Stepping.{IsRun}
use Rattle.md_core.specs.Tracing.{KeepsStates}
use Rattle.md_listing.proofs.Waiting.{goes_on}
use Rattle.md_view.proofs.laws.a_listing_may_wait.Goals as goal

pub returns : goal.returns
returns c before after run later more listing begun =
    let keeps : KeepsStates before after = elim more [
      | inl by_events ↦ subst (λ (x : Run). KeepsStates before x) (sym by_events.1) (c.steps_keep_moments.ensures before run by_events.0)
      | inr by_call ↦
          subst (λ (x : Run). KeepsStates before x) (sym by_call.1)
          (c.calls_keep_moments.ensures before run by_call.0 (subst (λ (x : Run). IsRun x) by_call.1 later))
    ] in
    goes_on before after listing keeps begun more
