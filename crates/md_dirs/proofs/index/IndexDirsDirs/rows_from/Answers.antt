use Rattle.md_dirs.proofs.Hashed.{all-filed, rows-shown}
use Rattle.md_dirs.proofs.index.IndexDirsDirs.rows_from.Goals as goal

pub rows_from-requires : goal.rows_from-requires
rows_from-requires c = all-filed _ _ _ c.self.invariant c.args.folder c.args.place

pub returns : goal.returns
returns c = rw (← c.self.view_is, rows-shown _ _ _ c.self.invariant c.args.folder c.args.place) c.rows_from.ensures
