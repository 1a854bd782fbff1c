use Rattle.md_kept.proofs.Keys.{then}
use Rattle.md_watch.proofs.flagged.Flagged.follow.Goals as goal

pub returns : goal.returns
returns c = then c.turn-3.result
    (λ turns. record {
      come = c.turn.new.self;
      gone = c.turn-2.new.self;
      comes = c.in_ok-turn.ensures;
      goes = c.in_ok-turn-2.ensures;
      turns = turns;
    })
    c.turn-3.ensures
