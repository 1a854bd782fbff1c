use Rattle.std.proofs.Common.{◌||◌, ◌∙◌, ap}
use Rattle.md_core.proofs.Values.{is_among}
use Rattle.md_core.proofs.Worlds.Submitted.{or_true}
use Rattle.md_core.proofs.world.submit.gather.Goals as goal

pub returns-in_ok-names_in-clause-covers : goal.returns-in_ok-names_in-clause-covers
returns-in_ok-names_in-clause-covers g c = λ u is.
    ap (λ b. is_among u c.args.used.now.since || b) (c.in_ok-names_in.ensures u ∙ is) ∙ or_true (is_among u c.args.used.now.since)
