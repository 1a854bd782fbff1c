use Rattle.md_trace.proofs.Grown.{also, at_folder}
use Rattle.md_trace.proofs.text.Log.push_path.Goals as goal

pub returns : goal.returns
returns c =
    let folder = at_folder c.push.ensures c.args.folder c.push_folder.ensures in
    let place = rw c.place_text.ensures at c.push-3.ensures in
    also (also (also (also (also c.push.ensures folder) c.push-2.ensures) place) c.push-4.ensures) c.push_name.ensures
