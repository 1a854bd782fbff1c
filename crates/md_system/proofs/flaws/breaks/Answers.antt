use Rattle.md_system.proofs.Elsewhere.{twin-if-twice, twin-if-elsewhere}
use Rattle.md_system.proofs.flaws.breaks.Goals as goal

pub returns-else-has_twin : goal.returns-else-has_twin
returns-else-has_twin c = rw c.in-TwiceInFolder.is (
  λ is. cc (is, c.if-has_twin.false),
  λ breaks. c.requires.twin.1 (breaks.0, twin-if-twice c.args.one.now c.args.seen.now breaks.1),
)

pub returns-else-has_twin-2 : goal.returns-else-has_twin-2
returns-else-has_twin-2 c = rw c.in-InOtherFolders.is (
  λ is. cc (is, c.if-has_twin-2.false),
  λ breaks. c.requires.twin.1 (breaks.0, twin-if-elsewhere c.args.one.now c.args.seen.now c.requires.here breaks.0 breaks.1),
)
