use Rattle.std.proofs.Common.{◌∙◌, ap}
use Rattle.md_used.specs.Used.{is_among}
use Rattle.md_used.proofs.Among.{among-moved}
use Rattle.md_used.proofs.used.NameSet.reserve.Goals as goal

pub returns-clause-same : goal.returns-clause-same
returns-clause-same c = λ u. among-moved c.self.inside.names.keys c.reserve.new.self.keys c.reserve.ensures.keys.0 u ∙ ap (is_among u) c.self.view_is
