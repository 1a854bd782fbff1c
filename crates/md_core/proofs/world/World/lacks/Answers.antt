use Rattle.std.proofs.Common.{arith}
use Rattle.std.proofs.lemmas.Bool.Decides.{nat_tests}
use Rattle.md_core.proofs.Worlds.Checking.{folders-are}
use Rattle.md_core.proofs.world.World.lacks.Goals as goal

pub returns : goal.returns
returns g c =
    let s = c.self.inside in
    let first = g.D.Dirs.device s.image.value in
    let held = g.D.Dirs.device s.dirs in
    let here = folders-are first s.began s.jobs.items s.log.events.items s.log.marks.items held s.clock s.log.effects.items s.used c.args.self.now
    c.self.view_is c.self.invariant in
    let count = c.folders.ensures.count in
    grind (arith, nat_tests, here, count)
