use Rattle.std.proofs.Common.{◌≡◌, arith, subst}
use Rattle.md_trace.specs.Growing.{GrowsIf}
use Rattle.md_trace.specs.Rows.{AreFitFolders, all_lines}
use Rattle.md_trace.proofs.Lined.{also_folder}
use Rattle.md_trace.proofs.rows.push_rows.Goals as goal

pub loop-folder-preserved : goal.loop-folder-preserved
loop-folder-preserved g c =
    also_folder c.args.form (g.D.Dirs.device c.args.dirs.now).state c.loop-folder.folder c.loop-folder.invariant c.push_folder.ensures

pub returns : goal.returns
returns g c =
    let s = (g.D.Dirs.device c.args.dirs.now).state in
    let whole : c.loop-folder.folder ≡ s.folders =
    omega (arith, c.loop-folder-test.false, c.loop-folder.auto.folder-end, c.folders-folder-end.ensures.count) in
    subst (λ count. GrowsIf (AreFitFolders c.args.form s count) (all_lines c.args.form c.args.log.now s count) c.args.log.now c.loop-folder.log) whole
    c.loop-folder.invariant
