use Rattle.std.proofs.Common.{ℕ, List, ◌∙◌, sym, ap, map, IsSome}
use Rattle.md_dirs.specs.State.{file_by}
use Rattle.md_dirs.specs.Files.{files_of}
use Rattle.md_dirs.specs.Index.{named_row}
use Rattle.lists.proofs.Booleans.{holds}
use Rattle.md_dirs.proofs.Sliced.{rows-listed, each-named}
use Rattle.md_dirs.specs.Slots.{slots_of}
use Rattle.md_dirs.proofs.plain.list.PathList.rows_of.Goals as goal

pub copied_rows-requires : goal.copied_rows-requires
copied_rows-requires c =
    let part = rw c.deref.ensures.value at c.directory.ensures in
    let listed = rows-listed c.self.inside.rows.items c.args.folder c.args.place (holds _ c.self.invariant) ∙ ap (map named_row) (sym part) in
    let all = rw (← c.self.view_is, listed) at c.requires in
    each-named (λ (e : List ℕ × ℕ). IsSome (file_by (files_of (slots_of c.args.slots.now)) e.1)) c.directory.result.now all

pub returns : goal.returns
returns c =
    let part = rw c.deref.ensures.value at c.directory.ensures in
    let listed = rows-listed c.self.inside.rows.items c.args.folder c.args.place (holds _ c.self.invariant) ∙ ap (map named_row) (sym part) in
    rw (← c.self.view_is, listed) c.copied_rows.ensures
