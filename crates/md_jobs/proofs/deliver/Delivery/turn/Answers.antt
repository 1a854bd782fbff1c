use Rattle.std.proofs.Common.{rules, subst}
use Rattle.md_jobs.specs.Requests.{ready_turn}
use Rattle.md_jobs.specs.Tasks.Delivery.{Delivery}
use Rattle.md_jobs.specs.Turn.{Turn, Takes}
use Rattle.md_jobs.proofs.Performing.{takes}
use Rattle.md_jobs.proofs.deliver.Delivery.turn.Goals as goal

pub returns : goal.returns
returns g c =
    let job = c.args.job in
    let before = g.D.Dirs.device c.args.dirs.now in
    let after = g.D.Dirs.device c.call.new.dirs in
    let said = c.take.ensures in
    record {
      ok = subst (λ (t : Turn Delivery). Takes t c.args.at before c.take.result.out c.take.result.effect.value c.take.new.self after)
          (c.in_ok-ready.ensures.turn job)
          (takes (ready_turn job c.args.self.now c.in_ok-ready.ready) c.args.at before c.in_ok-reply.reply after c.take.result.out
          c.take.result.effect.value c.take.new.self (c.in_ok-reply.ensures.made job) said.shown.call said.shown.reply (said.follows _)
          said.shown.effect);
      pushed = search rules;
      refused = tt;
      kept = tt;
      task = tt;
    }
