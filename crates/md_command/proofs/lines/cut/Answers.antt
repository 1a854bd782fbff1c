use Rattle.md_command.proofs.Cuts.{cut_nowhere, cut_first}
use Rattle.md_command.proofs.lines.cut.Goals as goal

pub returns-in-Some : goal.returns-in-Some
returns-in-Some c = cut_first c.args.end c.args.bytes.now c.in-Some.at c.in-Some.ensures

pub returns-in-None : goal.returns-in-None
returns-in-None c = cut_nowhere c.args.end c.args.bytes.now c.in-None.ensures
