use Rattle.std.proofs.Common.{◌∙◌, sym, ap, arith}
use lib.Count.{count_trailing_zeros}
use Rattle.md_name.proofs.Marks.{none_marked, first_marked}
use Rattle.md_name.proofs.blocks.first_in_block.Goals as goal

pub returns-then-marks-eq0 : goal.returns-then-marks-eq0
returns-then-marks-eq0 g c =
    none_marked g.W.Wanted.wanted c.args.bytes.now c.args.at c.requires (sym c.marks_at-marks.ensures ∙ c.if-marks-eq0.true)

pub returns : goal.returns
returns g c =
    first_marked g.W.Wanted.wanted c.args.bytes.now c.args.at _ c.requires (omega (arith, c.marks_at-marks.ensures, c.if-marks-eq0.false))
    (ap (count_trailing_zeros 64) c.marks_at-marks.ensures)
