use Rattle.std.proofs.Common.{sym, ap, ◌∙◌}
use Rattle.md_core.specs.Runs.{log_of}
use Rattle.md_core.proofs.Worlds.Stepping.{marked-events}
use Rattle.md_core.proofs.world.World.log.Goals as goal

pub returns : goal.returns
returns g c =
    let s = c.self.inside in
    c.as_slice.ensures.value ∙ sym (marked-events s.log.events.items s.log.marks.items c.self.invariant.as_many) ∙ ap log_of c.self.view_is
