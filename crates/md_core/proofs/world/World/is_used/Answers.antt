use Rattle.md_core.proofs.Worlds.Before.{covered, one-path}
use Rattle.md_core.proofs.world.World.is_used.Goals as goal

pub holds_name-requires-clause-one : goal.holds_name-requires-clause-one
holds_name-requires-clause-one g c =
    let s = c.self.inside in
    one-path (g.D.Dirs.device s.image.value) s.began s.jobs.items s.log.events.items s.log.marks.items (g.D.Dirs.device s.dirs) s.clock
    s.log.effects.items s.used c.self.invariant

pub holds_name-requires-clause-covers : goal.holds_name-requires-clause-covers
holds_name-requires-clause-covers g c =
    let s = c.self.inside in
    covered (g.D.Dirs.device s.image.value) s.began s.jobs.items s.log.events.items s.log.marks.items (g.D.Dirs.device s.dirs) s.clock
    s.log.effects.items s.used c.self.invariant
