use Rattle.md_trace.proofs.Grown.{also, at_message}
use Rattle.md_trace.proofs.answers.Subject.push_failed.Goals as goal

pub returns : goal.returns
returns c =
    let said = also c.push_number.ensures c.push.ensures in
    let message = rw c.as_slice.ensures at c.push_message.ensures in
    also said (at_message said c.args.self.now.folder c.args.self.now.unique message)
