use Rattle.std.proofs.Common.{take}
use Rattle.md_watch.specs.Readings.{Adds}
use Rattle.md_watch.proofs.readings.Reading.add.Given as goal

abbrev pub invariant-loop-name : goal.invariant-loop-name
invariant-loop-name l = Adds l.place (take l.name-index l.shown) l.initial.self l.self
