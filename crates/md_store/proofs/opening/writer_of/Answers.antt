use Rattle.std.proofs.Common.{ap, ◌∙◌}
use Rattle.md_store.specs.Pages.{Log}
use Rattle.md_store.proofs.Keeps.{begins}
use Rattle.md_store.proofs.opening.writer_of.Goals as goal

pub new-requires-clause-rule : goal.new-requires-clause-rule
new-requires-clause-rule g c =
    begins c.in_ok-first.first (ap (λ (l : Log). l.log) c.in_ok-first.ensures.page.1 ∙ c.requires.front) c.in_ok-first.ensures.messages
