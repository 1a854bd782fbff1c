use Rattle.md_core.proofs.Worlds.Held.{NotInTmp}
use Rattle.md_core.proofs.world.reading.is_in_tmp.Given as goal

abbrev pub invariant-loop-folder : goal.invariant-loop-folder
invariant-loop-folder g l = NotInTmp (g.D.Dirs.device l.dirs).state l.name l.folder
