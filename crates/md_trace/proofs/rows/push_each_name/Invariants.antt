use Rattle.std.proofs.Common.{take}
use Rattle.md_trace.specs.Growing.{Grows}
use Rattle.md_trace.specs.Rows.{names_text}
use Rattle.md_trace.proofs.rows.push_each_name.Given as goal

abbrev pub invariant-loop-row : goal.invariant-loop-row
invariant-loop-row l = Grows (names_text (take l.row-index l.rows)) l.fn.log l.log
