use Rattle.md_text.proofs.Printing.{SoFar}
use Rattle.std.proofs.Common.{length}
use Rattle.md_text.proofs.escapes.push_marked.Given as goal

abbrev pub invariant-loop-at : goal.invariant-loop-at
invariant-loop-at l = SoFar l.fn.out.items l.fn.bytes l.out.items l.done l.marks

abbrev pub decreases-loop-at : goal.decreases-loop-at
decreases-loop-at l = length l.marks
