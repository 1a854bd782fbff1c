use Rattle.std.proofs.Common.{All, take}
use Rattle.md_trace.specs.Growing.{GrowsIf}
use Rattle.md_trace.specs.Rows.{IsFit, row_lines}
use Rattle.md_trace.proofs.rows.push_lines.Given as goal

abbrev pub invariant-loop-row : goal.invariant-loop-row
invariant-loop-row l =
    GrowsIf (All (IsFit l.form) (take l.row-index l.rows)) (row_lines l.form l.fn.log l.folder l.place (take l.row-index l.rows)) l.fn.log l.log
