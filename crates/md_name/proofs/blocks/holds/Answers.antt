use Rattle.std.proofs.Common.{◌∙◌}
use Rattle.md_name.proofs.Marks.{told}
use Rattle.md_name.proofs.blocks.holds.Goals as goal

pub returns : goal.returns
returns g c = c.is_some.ensures ∙ told g.W.Wanted.wanted c.args.bytes.now c.first.result c.first.ensures
