use Rattle.md_watch.specs.declared.flagged.Shown.{Shown}
use Rattle.md_watch.specs.Flagged.{count_after}
use Rattle.md_kept.proofs.Keys.{then}
use Rattle.md_watch.proofs.Marking.{changed-at}
use Rattle.md_watch.proofs.flagged.Shown.turn.Goals as goal

pub returns : goal.returns
returns c =
    let old = c.args.self.now in
    let new : Shown = record { alloc = c.take-at.new.self.alloc; all = c.put_back.new.self } in
    then c.put_back.result
    (λ put. changed-at c.args.folder c.args.unique.now old new c.take-at.new.self.all c.take-at.result.1 c.turn.new.self c.take-at.ensures.is c.take-at.ensures.puts put
    c.args.now (λ k. count_after c.args.comes k 1) c.in_ok-turn.ensures.names c.in_ok-turn.ensures.spell)
    c.put_back.ensures
