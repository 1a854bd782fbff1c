use Rattle.md_store.proofs.Moves.{submitted}
use Rattle.md_store.proofs.locked.Locked.submit.Goals as goal

pub invariant_of-self : goal.invariant_of-self
invariant_of-self g c =
    let told = c.submit.ensures in
    submitted _ _ _ _ _ _ c.self.inside.world _ _ c.args.call c.submit.result told.ok told.effects told.unchanged c.self.invariant
