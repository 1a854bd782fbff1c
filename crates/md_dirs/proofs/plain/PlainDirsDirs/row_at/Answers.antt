use Rattle.std.proofs.Common.{sym, Some}
use Rattle.md_dirs.proofs.Hashed.{row-filed, row-shown}
use Rattle.md_dirs.proofs.plain.PlainDirsDirs.row_at.Goals as goal

pub shown_row-requires : goal.shown_row-requires
shown_row-requires c =
    row-filed _ _ _ c.self.invariant c.args.folder c.args.place c.args.at (c.in_ok-name.name.now, c.in_ok-name.file)
    (sym c.in_ok-name.ensures.row)

pub returns-clause-row : goal.returns-clause-row
returns-clause-row c =
    rw (c.shown_row.ensures, ← c.self.view_is)
    (row-shown _ _ _ c.self.invariant c.args.folder c.args.place c.args.at (Some (c.in_ok-name.name.now, c.in_ok-name.file))
    (sym c.in_ok-name.ensures.row))
