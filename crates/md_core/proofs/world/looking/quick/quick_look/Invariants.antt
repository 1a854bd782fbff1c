use Rattle.md_core.proofs.Values.{entries_before, IsQuickLook}
use Rattle.md_core.proofs.world.looking.quick.quick_look.Given as goal

abbrev pub invariant-loop-folder : goal.invariant-loop-folder
invariant-loop-folder g l =
    let s = (g.D.Dirs.device l.dirs).state in
    IsQuickLook s (entries_before s l.folder 0) l.clock
