use Rattle.std.proofs.Common.{◌∙◌, refl, slice_get}
use Rattle.md_dirs.specs.Index.{rows_in}
use Rattle.md_dirs.proofs.Hashed.{all-filed, row-shown}
use Rattle.md_dirs.proofs.index.IndexDirsDirs.row_at.Goals as goal

pub row_at-requires : goal.row_at-requires
row_at-requires c = all-filed _ _ _ c.self.invariant c.args.folder c.args.place

pub returns-clause-row : goal.returns-clause-row
returns-clause-row c =
    let s = c.self.inside in
    rw (← c.self.view_is)
    (c.row_at.ensures.row
    ∙ row-shown _ _ _ c.self.invariant c.args.folder c.args.place c.args.at
    (slice_get (rows_in s.names c.args.folder c.args.place) c.args.at) refl)
