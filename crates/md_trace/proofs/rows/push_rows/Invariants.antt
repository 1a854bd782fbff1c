use Rattle.md_trace.specs.Growing.{GrowsIf}
use Rattle.md_trace.specs.Rows.{AreFitFolders, all_lines}
use Rattle.md_trace.proofs.rows.push_rows.Given as goal

abbrev pub invariant-loop-folder : goal.invariant-loop-folder
invariant-loop-folder g l =
    let s = (g.D.Dirs.device l.dirs).state in
    GrowsIf (AreFitFolders l.form s l.folder) (all_lines l.form l.fn.log s l.folder) l.fn.log l.log
