use Rattle.md_core.proofs.Settling.OfWorld.{settled-world}
use Rattle.md_core.proofs.Traces.All.{interleaves}
use Rattle.md_core.proofs.world.World.settle.Goals as goal

pub invariant_of-result : goal.invariant_of-result
invariant_of-result g c =
    let s = c.self.inside in
    let first = g.D.Dirs.device s.image.value in
    let held = g.D.Dirs.device s.dirs in
    rw (c.of.ensures, c.new.ensures.items, c.new-2.ensures.0, c.new-2.ensures.1, c.new-2.ensures.2)
    (settled-world first s.began s.jobs.items s.log.events.items s.log.marks.items held s.clock s.log.effects.items s.used c.self.invariant
    c.beginning-used.result c.beginning-used.ensures.0 (rw c.beginning-used.ensures.1 c.kept_at_settle-were.ensures))

pub returns-clause-theorem : goal.returns-clause-theorem
returns-clause-theorem g c =
    let s = c.self.inside in
    let first = g.D.Dirs.device s.image.value in
    let held = g.D.Dirs.device s.dirs in
    rw (c.of.ensures, c.new.ensures.items, c.new-2.ensures.0)
    (interleaves _
    (settled-world first s.began s.jobs.items s.log.events.items s.log.marks.items held s.clock s.log.effects.items s.used c.self.invariant
    c.beginning-used.result c.beginning-used.ensures.0 (rw c.beginning-used.ensures.1 c.kept_at_settle-were.ensures)).run)
