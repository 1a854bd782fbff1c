use Rattle.std.proofs.Common.{◌∙◌, sym}
use Rattle.md_dirs.specs.Path.{path_of}
use Rattle.md_dirs.proofs.Kept.{at-names}
use Rattle.md_dirs.proofs.Steps.{row-file}
use Rattle.md_dirs.proofs.plain.list.PathList.file_of.Goals as goal

pub returns-in-Ok : goal.returns-in-Ok
returns-in-Ok c =
    let rows = c.self.inside.rows.items in
    let p = path_of c.args.folder c.args.place c.args.name.now in
    let at = rw c.deref.ensures.value at c.in-Ok.ensures.found in
    rw (← c.self.view_is) (sym (at-names rows p c.self.invariant ∙ row-file rows p c.in-Ok.at c.index.result.now at c.index.ensures))

pub returns-in-Err : goal.returns-in-Err
returns-in-Err c =
    let gap = rw c.deref.ensures.value at c.in-Err.ensures.absent in
    rw (← c.self.view_is) (sym (at-names c.self.inside.rows.items (path_of c.args.folder c.args.place c.args.name.now) c.self.invariant ∙ gap.absent))
