use Rattle.std.proofs.Common.{◌∙◌, sym}
use Rattle.md_dirs.proofs.Alike.{none-found, found-name, found-other}
use Rattle.md_dirs.proofs.index.names.place_in.Goals as goal

pub returns-in_err-at-clause-file : goal.returns-in_err-at-clause-file
returns-in_err-at-clause-file c =
    let found = rw c.lent-key.ensures at c.in_err-at.ensures.found in
    rw (c.from_residual.ensures) (sym (none-found (c.args.name.now, 0) c.args.table.now.keys (sym found)))

pub returns-then-is-clause-file : goal.returns-then-is-clause-file
returns-then-is-clause-file c =
    let found = rw c.lent-key.ensures at c.in_ok-at.ensures.found in
    rw (c.file.ensures) (sym (found-name (c.args.name.now, 0) c.args.table.now.keys c.in_ok-at.row.now (sym found) (sym c.is.ensures ∙ c.if-is.true)))

pub returns-clause-file : goal.returns-clause-file
returns-clause-file c =
    let found = rw c.lent-key.ensures at c.in_ok-at.ensures.found in
    sym (found-other (c.args.name.now, 0) c.args.table.now.keys c.in_ok-at.row.now c.row_like.ensures.apart (sym found) (sym c.is.ensures ∙ c.if-is.false))
