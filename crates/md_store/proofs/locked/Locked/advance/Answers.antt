use Rattle.std.proofs.Common.{ap, refl, ◌∙◌, sym}
use Rattle.md_core.specs.Runs.{effects_of}
use Rattle.md_store.specs.Locks.{Both}
use Rattle.md_store.proofs.Moves.{stepped, goes-made}
use Rattle.md_store.proofs.Ongoing.{goes_itself}
use Rattle.md_store.proofs.locked.Locked.advance.Goals as goal

pub enter-requires-clause-goes : goal.enter-requires-clause-goes
enter-requires-clause-goes g c =
    goes-made c.self.inside.world _ _ c.args.job c.args.now c.args.own c.step-made.result c.self.invariant.goes c.step-made.ensures.event c.step-made.ensures.shows
    c.step-made.ensures.unchanged

pub invariant_of-self : goal.invariant_of-self
invariant_of-self g c =
    stepped _ _ _ _ _ _ c.self.inside.world _ _ _ c.args.job c.args.now c.args.own c.step-made.result c.step-made.ensures.event c.step-made.ensures.shows
    c.step-made.ensures.unchanged c.self.invariant
    (ap (λ (v : Both). v.published) c.self.view_is ∙ (c.requires ∙ sym (ap (λ (v : Both). effects_of v.run) c.self.view_is))) c.enter.ensures.book c.enter.ensures.run

pub invariant_of-self-2 : goal.invariant_of-self-2
invariant_of-self-2 g c =
    stepped _ _ _ _ _ _ c.self.inside.world _ _ _ c.args.job c.args.now c.args.own c.step-made.result c.step-made.ensures.event c.step-made.ensures.shows
    c.step-made.ensures.unchanged c.self.invariant
    (ap (λ (v : Both). v.published) c.self.view_is ∙ (c.requires ∙ sym (ap (λ (v : Both). effects_of v.run) c.self.view_is))) c.enter.ensures.book c.enter.ensures.run

pub returns-in_err-out-clause-own : goal.returns-in_err-out-clause-own
returns-in_err-out-clause-own g c = goes_itself _ _ refl
