use Rattle.md_trace.proofs.Grown.{also, at_message}
use Rattle.md_trace.proofs.answers.Subject.push_own.Goals as goal

pub returns : goal.returns
returns c =
    let message = rw c.as_slice.ensures at c.push_message.ensures in
    also c.push_answer.ensures (at_message c.push_answer.ensures c.args.self.now.folder c.args.self.now.unique message)
