use Rattle.md_core.proofs.Looking.Reading.{IsPast}
use Rattle.md_core.proofs.world.reading.message_bytes.Given as goal

abbrev pub invariant-loop-folder : goal.invariant-loop-folder
invariant-loop-folder g l = IsPast (g.D.Dirs.device l.dirs).state l.unique l.folder
