use Rattle.std.proofs.Common.{subst}
use Rattle.md_view.specs.Named.{AreMessages}
use Rattle.md_store.proofs.pass.Pass.read.Goals as goal

pub returns-clause-messages : goal.returns-clause-messages
returns-clause-messages g c = subst AreMessages c.self.invariant.0.1 c.in_ok-entries.ensures.1.0.messages
