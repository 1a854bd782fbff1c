use Rattle.std.proofs.Common.{◌∙◌, sym, ap}
use Rattle.md_core.proofs.Values.{path_of, bytes_at_path}
use Rattle.md_core.proofs.Looking.Reading.{row-bytes, none-bytes}
use Rattle.md_core.proofs.world.reading.bytes_in.Goals as goal

pub returns-in_err-row : goal.returns-in_err-row
returns-in_err-row g c =
    rw c.from_residual.ensures
    (none-bytes (g.D.Dirs.device c.args.dirs.now).state c.args.unique.now c.args.folder c.args.place (sym c.in_err-row.ensures))

pub returns : goal.returns
returns g c =
    let s = (g.D.Dirs.device c.args.dirs.now).state in
    c.read.ensures
    ∙ ap (λ name. bytes_at_path s (path_of c.args.folder c.args.place name)) c.name.ensures
    ∙ row-bytes s c.args.unique.now c.args.folder c.args.place c.in_ok-row.row c.requires.sound c.requires.one
    c.requires.place c.requires.name (sym c.in_ok-row.ensures)
