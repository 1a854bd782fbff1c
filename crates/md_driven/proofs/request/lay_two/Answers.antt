use Rattle.md_driven.proofs.Laid.{two_laid}
use Rattle.md_driven.proofs.request.lay_two.Goals as goal

pub returns : goal.returns
returns c =
    let one = c.lay_at-at.ensures in
    let two = c.lay_at.ensures in
    two_laid c.args.first.now c.args.second.now c.args.out.now c.lay_at-at.new.out c.lay_at.new.out c.lay_at-at.result c.lay_at.result
    one.after one.front one.rest two.after two.front two.rest
