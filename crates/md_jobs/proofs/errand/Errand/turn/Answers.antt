use Rattle.std.proofs.Common.{rules}
use Rattle.md_jobs.specs.Machines.Errand.{errand_turn}
use Rattle.md_jobs.specs.Tasks.Views.Errands.{errand_view}
use Rattle.md_jobs.specs.Turn.{rows_for}
use Rattle.md_jobs.proofs.Performing.{takes}
use Rattle.md_jobs.proofs.errand.Errand.turn.Goals as goal

pub returns : goal.returns
returns g c =
    let turn = errand_turn c.args.job (errand_view c.args.self.now) in
    let before = g.D.Dirs.device c.args.dirs.now in
    let made = c.in_ok-reply.ensures in
    let said = c.take.ensures in
    let follows = said.follows (rows_for turn.asked before.state) (made.row c.args.job) in
    record {
      ok = record {
        left = follows.left;
        takes = takes turn c.args.at before _ _ c.take.result.out c.take.result.effect.value follows.left
            (made.made c.args.job c.args.at.clock) said.shown.call said.shown.reply follows.after said.shown.effect;
        goes_on = follows.goes_on;
      };
      pushed = search rules;
      refused = tt;
      kept = tt;
      task = tt;
    }
