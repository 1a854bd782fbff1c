use Rattle.std.proofs.Common.{◌∙◌, arith}
use Rattle.md_core.proofs.Traces.All.{interleaves}
use Rattle.md_core.proofs.Worlds.Submitted.{begun-world}
use Rattle.md_core.proofs.world.World.load.Goals as goal

pub invariant_of-result : goal.invariant_of-result
invariant_of-result g c =
    rw (c.of.ensures, c.new.ensures.items, c.new-in-Some.ensures.0, c.new-in-Some.ensures.1, c.new-in-Some.ensures.2)
    (begun-world (g.D.Dirs.device c.args.dirs) c.folders-sound.ensures.sound c.in-Some.ensures.0 c.in-Some.clock (omega (arith, c.in-Some.ensures.1))
    c.beginning.result (record { since = c.beginning.ensures.0; covers = rw c.beginning.ensures.1 tt }))

pub returns-in-Some-clause-theorem : goal.returns-in-Some-clause-theorem
returns-in-Some-clause-theorem g c = interleaves _ (invariant_of-result g c).run

pub invariant_of-result-in-Ok : goal.invariant_of-result-in-Ok
invariant_of-result-in-Ok g c =
    rw (c.of-in-Ok.ensures, c.new-in-Ok.ensures.items, c.new-in-Ok-2.ensures.0, c.new-in-Ok-2.ensures.1, c.new-in-Ok-2.ensures.2)
    (begun-world (g.D.Dirs.device c.args.dirs) c.folders-sound.ensures.sound c.in-Ok.ensures.accepted c.in-Ok.looked.clock (omega (arith, c.in-Ok.ensures.clock))
    c.beginning-in-Ok.result (record {
      since = c.beginning-in-Ok.ensures.0;
      covers = rw (c.beginning-in-Ok.ensures.0, c.beginning-in-Ok.ensures.1) (λ u is. c.in-Ok.ensures.used u ∙ is);
    }))

pub returns-in-Ok-clause-theorem : goal.returns-in-Ok-clause-theorem
returns-in-Ok-clause-theorem g c = interleaves _ (invariant_of-result-in-Ok g c).run
