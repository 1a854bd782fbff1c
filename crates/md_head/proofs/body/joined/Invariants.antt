use Rattle.std.proofs.Common.{◌≡◌, length}
use Rattle.std.specs.List.{concat}
use Rattle.md_head.specs.Header.{lines_of}
use Rattle.md_head.specs.Computed.{trimmed_front}
use Rattle.md_head.proofs.Joins.{onto_joined}
use Rattle.md_head.proofs.body.joined.Given as goal

abbrev pub invariant-loop-line : goal.invariant-loop-line
invariant-loop-line l = onto_joined l.bytes.items (concat (lines_of l.left)) ≡ trimmed_front (concat (lines_of l.fn.text))

abbrev pub decreases-loop-line : goal.decreases-loop-line
decreases-loop-line l = length l.left
