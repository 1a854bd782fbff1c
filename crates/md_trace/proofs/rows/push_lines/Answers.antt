use Rattle.std.proofs.Common.{subst}
use Rattle.md_trace.specs.Growing.{GrowsIf}
use Rattle.md_trace.specs.Rows.{IsFit, row_text}
use Rattle.md_trace.proofs.Lined.{also_row}
use Rattle.md_trace.proofs.rows.push_lines.Goals as goal

pub loop-row-preserved : goal.loop-row-preserved
loop-row-preserved c =
    let row = subst (λ row. GrowsIf (IsFit c.args.form row) (row_text c.args.form c.loop-row.log c.args.folder c.args.place row) c.loop-row.log c.push_row.new.log)
    c.row-item.is c.push_row.ensures in
    also_row c.args.form c.args.folder c.args.place c.args.rows.now c.loop-row.row-index c.row-item.result c.loop-row-test.true
    c.loop-row.invariant row
