use Rattle.md_judge.proofs.Placing.{AreKeptTo}
use Rattle.md_judge.proofs.stretch.Stretch.allows.Given as goal

abbrev pub invariant-loop-at : goal.invariant-loop-at
invariant-loop-at l = AreKeptTo l.self.steps.items l.order l.at-index l.latest
