use Rattle.std.proofs.Common.{◌++◌, ◌∙◌, ap, codes}
use Rattle.md_trace.specs.Growing.{name_text}
use Rattle.md_trace.proofs.Grown.{also_next}
use Rattle.md_trace.proofs.rows.push_each_name.Goals as goal

pub loop-row-preserved : goal.loop-row-preserved
loop-row-preserved c =
    let name = rw (c.name.ensures ∙ ap (λ row. row.name) c.row-item.is) at c.push_spaced.ensures in
    also_next (λ row. codes " " ++ name_text row.name) c.args.rows.now c.loop-row.row-index c.row-item.result c.loop-row-test.true
    c.loop-row.invariant name
