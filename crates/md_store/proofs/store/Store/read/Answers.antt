use Rattle.std.proofs.Common.{◌≡◌, sym, subst, rules}
use Rattle.md_core.specs.Interleaving.{Interleaves}
use Rattle.md_core.specs.Stepping.{IsRun}
use Rattle.md_core.specs.Tracing.{trace_of}
use Rattle.md_store.specs.Locks.{Both}
use Rattle.md_store.specs.Ongoing.{IsSince}
use Rattle.md_store.proofs.Since.{reads-since}
use Rattle.md_store.proofs.store.Store.read.Goals as goal

pub returns : goal.returns
returns g c =
    let same : c.deref-2.result.now ≡ c.deref.result.now = search rules in
    let run : IsRun c.deref-2.result.now.run = subst (λ (b : Both). IsRun b.run) (sym same) c.lags.ensures.run in
    reads-since g.J.Naming.begun c.deref-2.result.now.run (subst (λ (b : Both). IsSince g.J.Naming.begun b.run) (sym same) c.lags.ensures.since) run
    (c.worlds_show_their_traces.ensures c.deref-2.result.now.run run)
    (subst (λ (b : Both). Interleaves (trace_of b.run)) (sym same) c.lags.ensures.theorem) c.args.unique.now c.read-read.result c.read-read.ensures
