use Rattle.std.proofs.Common.{subst}
use Rattle.md_view.specs.Named.{Named, AreMessages}
use Rattle.md_view.proofs.names.NamesIn.are_messages.Goals as goal

pub returns : goal.returns
returns g c = subst (λ (n : Named). AreMessages n) c.self.view_is c.self.invariant.messages
