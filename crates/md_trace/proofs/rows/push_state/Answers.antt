use Rattle.md_trace.proofs.Grown.{also, at_message}
use Rattle.md_trace.proofs.rows.push_state.Goals as goal

pub returns : goal.returns
returns c =
    let place = also c.push.ensures (rw c.place_text.ensures at c.push-2.ensures) in
    let message = at_message place c.args.folder c.args.row.now.name (rw c.name.ensures at c.push_message.ensures) in
    let stamp = also (also (also place message) c.push-3.ensures) (rw c.stamp.ensures at c.push_number.ensures) in
    also (also (also stamp c.push-4.ensures) (rw c.size.ensures at c.push_number-2.ensures)) c.push-5.ensures
