use Rattle.md_dirs.proofs.Hashed.{all-filed, rows-shown}
use Rattle.md_dirs.proofs.index.IndexDirsDirs.rows_unordered.Goals as goal

pub rows_unordered-requires : goal.rows_unordered-requires
rows_unordered-requires c = all-filed _ _ _ c.self.invariant c.args.folder c.args.place

pub returns : goal.returns
returns c = rw (← c.self.view_is, rows-shown _ _ _ c.self.invariant c.args.folder c.args.place) c.rows_unordered.ensures
