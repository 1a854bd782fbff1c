use Rattle.std.proofs.Common.{◌∙◌, sym, ap}
use Rattle.std.specs.Ordering.{is_lt}
use Rattle.md_dirs.proofs.Zones.{below-name}
use Rattle.md_dirs.proofs.rows.is_below.Goals as goal

pub returns : goal.returns
returns c = c.is_lt.ensures ∙ ap is_lt c.cmp.ensures ∙ sym (below-name c.args.unique.now c.args.name.now)
