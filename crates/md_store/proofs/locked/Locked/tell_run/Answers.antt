use Rattle.md_store.proofs.Moves.{noted}
use Rattle.md_store.proofs.locked.Locked.tell_run.Goals as goal

pub invariant_of-self : goal.invariant_of-self
invariant_of-self g c = noted _ _ _ _ _ _ c.self.inside.world _ _ c.self.invariant c.enter.ensures.book c.enter.ensures.run
