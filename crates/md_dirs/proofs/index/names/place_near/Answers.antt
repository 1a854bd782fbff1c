use Rattle.std.proofs.Common.{Some, ◌∙◌, sym, ap}
use Rattle.md_dirs.proofs.Alike.{at-place}
use Rattle.md_dirs.proofs.index.names.place_near.Goals as goal

pub returns-in-Some-clause-file : goal.returns-in-Some-clause-file
returns-in-Some-clause-file c =
    ap Some c.file.ensures ∙ sym (at-place c.args.table.now.keys c.args.near c.args.name.now c.in-Some.row.now.1 c.in-Some.ensures.apart c.in-Some.ensures.there)
