use Rattle.md_kept.specs.Changes.{turn_of}
use Rattle.md_kept.proofs.Keys.{then}
use Rattle.md_watch.proofs.Claiming.{whole}
use Rattle.md_watch.proofs.claims.actor.Actor.step.Goals as goal

pub returns : goal.returns
returns c = then c.answer.result
    (whole c.args.call.now (turn_of c.args.change.now) c.args.before c.args.after c.args.now
    c.is_unlink-is_unlink.result c.args.self.now c.begin.new.self c.act.new.self
    c.change.new.self c.change-2.new.self c.look.new.self c.answer.new.self c.is_unlink-is_unlink.ensures c.in_ok-begin.ensures
    c.in_ok-act.ensures c.in_ok-change.ensures c.in_ok-change-2.ensures c.in_ok-look.ensures)
    c.answer.ensures
