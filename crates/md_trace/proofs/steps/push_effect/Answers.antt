use Rattle.md_trace.proofs.Grown.{also, at_change}
use Rattle.md_trace.proofs.steps.push_effect.Goals as goal

pub returns : goal.returns
returns c = also (also c.push.ensures (at_change c.push.ensures c.args.change.now c.push_change.ensures)) c.push-2.ensures
