use Rattle.md_core.proofs.Values.{AreOf, entries_before}
use Rattle.md_core.proofs.world.looking.names.names_in.Given as goal

abbrev pub invariant-loop-folder : goal.invariant-loop-folder
invariant-loop-folder g l = AreOf (entries_before (g.D.Dirs.device l.dirs).state l.folder 0) l.used
