use Rattle.std.proofs.Common.{sym, ap, ◌∙◌, ◌+◌, option_map}
use Rattle.md_core.proofs.Settling.OfWorld.{unanswered-is}
use Rattle.md_core.proofs.world.World.first_unanswered.Goals as goal

pub returns-in-Some : goal.returns-in-Some
returns-in-Some g c =
    let s = c.self.inside in
    let first = g.D.Dirs.device s.image.value in
    let held = g.D.Dirs.device s.dirs in
    let is = unanswered-is first s.began s.jobs.items s.log.events.items s.log.marks.items held s.clock s.log.effects.items s.used c.self.invariant
    c.args.self.now c.self.view_is in
    let items = c.deref.ensures.value in
    let found = c.in-Some.ensures.value in
    ap (option_map (λ at. at + 1)) (rw items at found) ∙ sym is

pub returns-in-None : goal.returns-in-None
returns-in-None g c =
    let s = c.self.inside in
    let first = g.D.Dirs.device s.image.value in
    let held = g.D.Dirs.device s.dirs in
    let is = unanswered-is first s.began s.jobs.items s.log.events.items s.log.marks.items held s.clock s.log.effects.items s.used c.self.invariant
    c.args.self.now c.self.view_is in
    let items = c.deref.ensures.value in
    let found = c.in-None.ensures.value in
    ap (option_map (λ at. at + 1)) (rw items at found) ∙ sym is
