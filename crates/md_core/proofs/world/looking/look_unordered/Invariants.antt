use Rattle.md_core.specs.Looking.{IsLookOf, entries_before}
use Rattle.md_core.proofs.world.looking.look_unordered.Given as goal

abbrev pub invariant-loop-folder : goal.invariant-loop-folder
invariant-loop-folder g l =
    let s = (g.D.Dirs.device l.dirs).state in
    IsLookOf s (entries_before s l.folder 0) l.seen
