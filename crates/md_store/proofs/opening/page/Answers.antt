use Rattle.std.proofs.Common.{ap, sym, subst, ◌∙◌}
use Rattle.md_view.specs.Named.{AreMessages, named_of}
use Rattle.md_store.proofs.Fresh.{fresh-dirs}
use Rattle.md_store.proofs.opening.page.Goals as goal

pub returns-clause-page : goal.returns-clause-page
returns-clause-page g c = (c.new.ensures.1 ∙ (c.in-Ok.ensures.names ∙ ap named_of (fresh-dirs c.args.world.now c.requires)), c.new.ensures.0 ∙ c.again.ensures)

pub returns-clause-messages : goal.returns-clause-messages
returns-clause-messages g c = subst AreMessages (sym c.new.ensures.1) c.are_messages.ensures
