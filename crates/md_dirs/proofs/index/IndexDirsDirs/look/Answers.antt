use Rattle.std.proofs.Common.{◌∙◌, sym, ap}
use Rattle.md_dirs.specs.Rows.{row_named}
use Rattle.md_dirs.specs.Index.{rows_in}
use Rattle.md_dirs.specs.Files.{files_of}
use Rattle.md_dirs.proofs.Hashed.{all-filed, rows-shown}
use Rattle.md_dirs.proofs.Zones.{row_named-map}
use Rattle.md_dirs.specs.Slots.{slots_of}
use Rattle.md_dirs.proofs.index.IndexDirsDirs.look.Goals as goal

pub look-requires : goal.look-requires
look-requires c = all-filed _ _ _ c.self.invariant c.args.folder c.args.place

pub returns : goal.returns
returns c =
    let s = c.self.inside in
    rw (← c.self.view_is)
    (c.look.ensures
    ∙ sym (ap (row_named c.args.unique.now) (rows-shown _ _ _ c.self.invariant c.args.folder c.args.place) ∙
    row_named-map c.args.unique.now (files_of (slots_of s.slots)) (rows_in s.names c.args.folder c.args.place)))
