use Rattle.md_jobs.specs.Machines.Clean.{cleaning_turn}
use Rattle.md_jobs.proofs.Performing.{takes}
use Rattle.md_jobs.proofs.cleaning.Cleaning.turn.Goals as goal

pub returns-clause-ok : goal.returns-clause-ok
returns-clause-ok g c =
    let own = c.args.at.own in
    let made = c.in_ok-reply.ensures in
    let said = c.take.ensures in
    takes (cleaning_turn c.args.self.now own) c.args.at _ c.in_ok-reply.reply _ c.take.result.out c.take.result.effect.value c.take.new.self
    made.made (said.shown own).0 (said.shown own).1 (said.follows own _ made.old) said.effect
