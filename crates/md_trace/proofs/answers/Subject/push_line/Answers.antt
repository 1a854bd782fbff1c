use Rattle.md_trace.proofs.Grown.{at_answer, if_also}
use Rattle.md_trace.proofs.answers.Subject.push_line.Goals as goal

pub returns : goal.returns
returns c =
    let answer = at_answer c.push_begin.ensures c.args.self.now c.args.event.job c.args.answer c.push_answer.ensures in
    if_also (if_also c.push_begin.ensures answer) c.push.ensures
