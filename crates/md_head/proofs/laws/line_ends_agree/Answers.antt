use Rattle.md_head.specs.Laws.{with_crlf}
use Rattle.md_head.proofs.Appended.{same_lines}
use Rattle.md_head.proofs.Endings.{crlf_lines}
use Rattle.md_head.proofs.laws.line_ends_agree.Goals as goal

pub returns : goal.returns
returns c = λ text h. same_lines (with_crlf text) text (crlf_lines text h)
