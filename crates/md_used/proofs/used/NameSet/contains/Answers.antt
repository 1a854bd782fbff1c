use Rattle.std.proofs.Common.{◌∙◌}
use Rattle.md_used.proofs.Among.{among}
use Rattle.md_used.specs.Used.{is_among}
use Rattle.md_used.proofs.used.NameSet.contains.Goals as goal

pub returns : goal.returns
returns c =
    c.contains.ensures ∙ among c.self.inside.names.keys c.lent-key.result ∙ (λ i. is_among (c.lent-key.ensures i) (c.self.view_is i))
