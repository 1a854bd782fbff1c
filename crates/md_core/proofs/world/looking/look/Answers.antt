use Rattle.std.proofs.Common.{◌∙◌, ap}
use Rattle.md_core.proofs.Values.{entries, is_among}
use Rattle.md_core.proofs.Worlds.Loading.Whole.{used-all}
use Rattle.md_core.proofs.world.looking.look.Goals as goal

pub returns-clause-accepted : goal.returns-clause-accepted
returns-clause-accepted g c = c.in_ok-seen.ensures.faultless

pub returns-clause-clock : goal.returns-clause-clock
returns-clause-clock g c = c.in_ok-seen.ensures.clock

pub returns-clause-used : goal.returns-clause-used
returns-clause-used g c = λ u.
    let s = (g.D.Dirs.device c.args.dirs.now).state in
    ap (is_among u) c.of.ensures ∙ used-all s (entries s.names) c.in_ok-seen.seen c.in_ok-seen.ensures u
