use Rattle.md_store.proofs.Ends.{open-since}
use Rattle.md_store.proofs.store.Store.go_on.Goals as goal

pub returns-in_default-clause-end : goal.returns-in_default-clause-end
returns-in_default-clause-end g c = open-since _ _ _ _ _ _ c.in-Ok.ensures.step.step
