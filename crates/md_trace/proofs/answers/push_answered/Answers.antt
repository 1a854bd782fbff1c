use Rattle.std.specs.Option.{option_copied}
use Rattle.md_trace.proofs.Grown.{at_line, then_if}
use Rattle.md_trace.proofs.answers.push_answered.Goals as goal

pub returns : goal.returns
returns c =
    then_if c.push_comment.ensures
    (at_line c.push_comment.ensures c.args.event c.args.answer.now (option_copied c.args.subject) c.push_line_of.ensures)
