use Rattle.md_trace.proofs.Grown.{at_noted, if_also}
use Rattle.md_trace.proofs.steps.push_noted_step.Goals as goal

pub returns : goal.returns
returns g c =
    let call = if_also (if_also c.push_begin.ensures c.push_number.ensures) (rw c.call_text.ensures at c.push.ensures) in
    let noted = if_also call (at_noted call c.args.noted.now c.push_noted.ensures) in
    let reply = if_also noted (rw c.reply_text.ensures at c.push-2.ensures) in
    if_also (if_also reply c.push_shown.ensures) c.push-3.ensures
