use Rattle.std.proofs.Common.{◌≡◌, ap, ◌∙◌, sym, subst, rules}
use Rattle.md_core.specs.Stepping.{IsRun}
use Rattle.md_view.specs.Named.{Named}
use Rattle.md_store.specs.Locks.{Both}
use Rattle.md_store.specs.Ongoing.{IsSince}
use Rattle.md_store.proofs.Since.{submits-since, refuses-call}
use Rattle.md_store.proofs.Submits.{submits}
use Rattle.md_store.proofs.store.Store.submit.Goals as goal

pub returns-clause-job : goal.returns-clause-job
returns-clause-job g c =
    let same : c.deref_mut.result.now ≡ c.deref.result.now = search rules in
    submits-since g.J.Naming.begun c.deref_mut.result.now.run (subst (λ (b : Both). IsSince g.J.Naming.begun b.run) (sym same) c.lags.ensures.since)
    (subst (λ (b : Both). IsRun b.run) (sym same) c.lags.ensures.run) _ c.args.call c.submit-made.result _ c.submit-made.ensures.refused
    c.submit-made.ensures.ok

pub returns-clause-refused : goal.returns-clause-refused
returns-clause-refused g c =
    let same : c.deref_mut.result.now ≡ c.deref.result.now = search rules in
    submits c.deref_mut.result.now.run g.J.Naming.opening.folders (ap (λ (b : Both). b.run.image.folders) same ∙
    ap (λ (n : Named). n.folders) c.lags.ensures.image) c.args.call c.submit-made.result c.submit-made.ensures.refused

pub returns-clause-why : goal.returns-clause-why
returns-clause-why g c =
    let same : c.deref_mut.result.now ≡ c.deref.result.now = search rules in
    refuses-call g.J.Naming.begun c.deref_mut.result.now.run (subst (λ (b : Both). IsSince g.J.Naming.begun b.run) (sym same) c.lags.ensures.since)
    (subst (λ (b : Both). IsRun b.run) (sym same) c.lags.ensures.run) c.args.call c.submit-made.result _ c.submit-made.ensures.refused
