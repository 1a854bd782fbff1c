use Rattle.std.proofs.Common.{◌-◌, length}
use Rattle.md_head.proofs.Ranges.{Passed}
use Rattle.md_head.proofs.line.group_end.Given as goal

abbrev pub invariant-loop-at : goal.invariant-loop-at
invariant-loop-at l = Passed l.text l.end

abbrev pub decreases-loop-at : goal.decreases-loop-at
decreases-loop-at l = length l.text - l.end
