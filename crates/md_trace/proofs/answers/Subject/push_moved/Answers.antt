use Rattle.md_trace.proofs.Grown.{also, at_folder, at_message}
use Rattle.md_trace.proofs.answers.Subject.push_moved.Goals as goal

pub returns-in-Some-None : goal.returns-in-Some-None
returns-in-Some-None c =
    let said = also c.push_answer.ensures c.push.ensures in
    let named = also said (at_folder said c.in-Some-None.folder c.push_folder.ensures) in
    let message = rw c.as_slice.ensures at c.push_message.ensures in
    rw (c.in-Some-None.is-0, c.in-Some-None.is-1) (also named (at_message named c.args.self.now.folder c.args.self.now.unique message))
