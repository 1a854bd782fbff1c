use Rattle.std.proofs.Common.{◌≡◌, ◌+◌, ◌≤◌, length}
use Rattle.md_head.specs.Header.{lines_of}
use Rattle.md_script.proofs.lines.count_lines.Given as goal

abbrev pub invariant-loop-others : goal.invariant-loop-others
invariant-loop-others l = record {
  counted : l.count + length l.left ≤ length l.fn.script;
  same : l.count + length (lines_of l.left) ≡ length (lines_of l.fn.script);
}

abbrev pub decreases-loop-others : goal.decreases-loop-others
decreases-loop-others l = length l.left
