use Rattle.md_trace.proofs.Grown.{also, at_folder}
use Rattle.md_trace.proofs.text.Log.push_message.Goals as goal

pub returns : goal.returns
returns c = also (also (also c.push.ensures (at_folder c.push.ensures c.args.folder c.push_folder.ensures)) c.push-2.ensures) c.push_name.ensures
