use Rattle.std.proofs.Common.{◌≡◌, ◌+◌, ◌≤◌, List, ◌++◌, None, length, ℕ}
use Rattle.md_head.specs.Header.{lines_of}
use Rattle.md_script.specs.Progress.{outcome}
use Rattle.md_script.proofs.run.Progress.run_lines.Given as goal

abbrev pub invariant-loop-first : goal.invariant-loop-first
invariant-loop-first g l = record {
  running : l.self.printed.refusal ≡ None;
  counted : l.self.passed + length l.left ≤ l.fn.self.passed + length l.fn.lines;
  same : (more : List (List ℕ)) → outcome g.S.Session.step l.self l.session (lines_of l.left ++ more) ≡ outcome g.S.Session.step l.fn.self l.fn.session (lines_of l.fn.lines ++ more);
}

abbrev pub decreases-loop-first : goal.decreases-loop-first
decreases-loop-first g l = length l.left
