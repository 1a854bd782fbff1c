use Rattle.md_trace.proofs.Grown.{also, at_folder}
use Rattle.md_trace.proofs.steps.push_noted.Goals as goal

pub returns-in-Directory : goal.returns-in-Directory
returns-in-Directory c =
    let folder = at_folder c.push.ensures c.in-Directory.folder c.push_folder.ensures in
    let place = rw c.place_text.ensures at c.push-in-Directory-2.ensures in
    rw c.in-Directory.is (also (also (also c.push.ensures folder) c.push-in-Directory.ensures) place)
