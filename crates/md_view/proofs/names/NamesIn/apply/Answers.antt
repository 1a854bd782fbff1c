use Rattle.std.proofs.Common.{ap, ◌∙◌}
use Rattle.md_view.specs.Named.{Named, after_change}
use Rattle.md_view.proofs.Held.Holding.{held-is, holds}
use Rattle.md_view.proofs.names.NamesIn.apply.Goals as goal

pub invariant_of-self-2 : goal.invariant_of-self-2
invariant_of-self-2 g c = holds _ c.apply_to.new.folders.items c.in_ok-apply_to.ensures.ok

pub returns-clause-names : goal.returns-clause-names
returns-clause-names g c =
    held-is _ c.apply_to.new.folders.items c.in_ok-apply_to.ensures.ok
    ∙ ap (λ (n : Named). after_change n c.args.change.now) c.self.view_is
