use Rattle.std.proofs.Common.{◌∙◌, sym}
use Rattle.md_dirs.proofs.Hashed.{all-filed, rows-shown}
use Rattle.md_dirs.proofs.plain.PlainDirsDirs.list.Goals as goal

pub rows_of-requires : goal.rows_of-requires
rows_of-requires c = all-filed _ _ _ c.self.invariant c.args.folder c.args.place

pub returns-clause-rows : goal.returns-clause-rows
returns-clause-rows c = rw (← c.self.view_is) (c.in_ok-rows.ensures ∙ sym (rows-shown _ _ _ c.self.invariant c.args.folder c.args.place))
