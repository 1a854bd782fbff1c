use Rattle.md_dirs.specs.declared.paths.Place.TheVariants.{New, Cur}
use Rattle.md_trace.proofs.Grown.{also_if, if_same}
use Rattle.md_trace.proofs.Lined.{at_directory}
use Rattle.md_trace.proofs.rows.push_folder.Goals as goal

pub returns : goal.returns
returns g c =
    let s = (g.D.Dirs.device c.args.dirs.now).state in
    let tmp = c.push_directory.ensures in
    let new = also_if tmp (at_directory tmp c.args.form s c.args.folder New c.push_directory-2.ensures) in
    let cur = also_if new (at_directory new c.args.form s c.args.folder Cur c.push_directory-3.ensures) in
    if_same (λ all. (all.0.0, all.0.1, all.1)) (λ all. ((all.0, all.1), all.2)) cur
