use Rattle.std.proofs.Common.{◌≡◌, ap, ◌∙◌, sym, subst, rules}
use Rattle.md_core.specs.Stepping.{IsRun}
use Rattle.md_view.specs.Named.{Named}
use Rattle.md_store.specs.Locks.{Both}
use Rattle.md_store.specs.Ongoing.{IsSince}
use Rattle.md_store.proofs.Ends.{accepts, comes-back}
use Rattle.md_store.proofs.Submits.{submits}
use Rattle.md_store.proofs.store.Store.submit_for.Goals as goal

pub returns-clause-job : goal.returns-clause-job
returns-clause-job g c =
    let same : c.deref_mut.result.now ≡ c.deref.result.now = search rules in
    let r = c.deref_mut.result.now.run in
    let made = c.submit_for-made in
    accepts g.J.Naming.begun r made.new.pass.run (subst (λ (b : Both). IsSince g.J.Naming.begun b.run) (sym same) c.lags.ensures.since)
    (subst (λ (b : Both). IsRun b.run) (sym same) c.lags.ensures.run) g.J.Naming.opening.folders c.args.call made.result made.ensures.refused
    (submits r g.J.Naming.opening.folders (ap (λ (b : Both). b.run.image.folders) same ∙
    ap (λ (n : Named). n.folders) c.lags.ensures.image) c.args.call made.result made.ensures.refused) made.ensures.ok

pub returns-clause-call : goal.returns-clause-call
returns-clause-call g c =
    let same : c.deref_mut.result.now ≡ c.deref.result.now = search rules in
    let r = c.deref_mut.result.now.run in
    let made = c.submit_for-made in
    comes-back g.J.Naming.begun r made.new.pass.run (subst (λ (b : Both). IsSince g.J.Naming.begun b.run) (sym same) c.lags.ensures.since)
    (subst (λ (b : Both). IsRun b.run) (sym same) c.lags.ensures.run) g.J.Naming.opening.folders c.args.call made.result
    (submits r g.J.Naming.opening.folders (ap (λ (b : Both). b.run.image.folders) same ∙
    ap (λ (n : Named). n.folders) c.lags.ensures.image) c.args.call made.result made.ensures.refused) made.ensures.call
