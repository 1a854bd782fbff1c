use Rattle.std.proofs.Common.{length}
use Rattle.md_head.specs.Header.{lines_of}
use Rattle.md_judge.proofs.Taken.{HasTakenTo}
use Rattle.md_judge.proofs.log.read_whole.Given as goal

abbrev pub invariant-loop-text : goal.invariant-loop-text
invariant-loop-text l = HasTakenTo l.log (lines_of l.left) l.session

abbrev pub decreases-loop-text : goal.decreases-loop-text
decreases-loop-text l = length l.left
