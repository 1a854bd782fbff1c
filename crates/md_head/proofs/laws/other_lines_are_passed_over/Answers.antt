use Rattle.md_head.proofs.Appended.{others_passed}
use Rattle.md_head.proofs.laws.other_lines_are_passed_over.Goals as goal

pub returns : goal.returns
returns c = others_passed
