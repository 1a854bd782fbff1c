use Rattle.std.proofs.Common.{◌∙◌, sym, ap, length}
use Rattle.lists.proofs.Booleans.{holds}
use Rattle.md_dirs.proofs.Sliced.{rows-listed, length-named}
use Rattle.md_dirs.proofs.plain.list.PathList.count.Goals as goal

pub returns : goal.returns
returns c =
    let rows = c.self.inside.rows.items in
    let part = rw c.deref.ensures.value at c.directory.ensures in
    rw (← c.self.view_is)
    (ap length part ∙ sym (ap length (rows-listed rows c.args.folder c.args.place (holds _ c.self.invariant)) ∙ length-named _))
