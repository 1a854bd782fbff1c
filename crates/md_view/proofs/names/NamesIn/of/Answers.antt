use Rattle.md_view.proofs.Held.Holding.{held-is, holds}
use Rattle.md_view.proofs.names.NamesIn.of.Goals as goal

pub invariant_of-result : goal.invariant_of-result
invariant_of-result g c = holds _ c.in_ok-folders.folders.items c.in_ok-folders.ensures.names

pub returns-clause-names : goal.returns-clause-names
returns-clause-names g c = held-is _ c.in_ok-folders.folders.items c.in_ok-folders.ensures.names
