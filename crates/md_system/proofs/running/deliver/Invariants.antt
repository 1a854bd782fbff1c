use Rattle.std.proofs.Common.{◌<◌}
use Rattle.md_jobs.specs.Machines.Deliver.{new_delivery, delivery_turn}
use Rattle.md_system.proofs.Fewer.{delivery_left}
use Rattle.md_system.proofs.Runs.{IsUnderWay}
use Rattle.md_system.proofs.running.deliver.Given as goal

abbrev pub invariant-loop-delivery : goal.invariant-loop-delivery
invariant-loop-delivery g l =
    IsUnderWay (delivery_turn 1) (new_delivery l.fn.folder l.fn.unique l.fn.body l.fn.chunk) l.fn.system.log.entries l.system.log.entries l.delivery
    × (0 < l.delivery.chunk)

abbrev pub decreases-loop-delivery : goal.decreases-loop-delivery
decreases-loop-delivery g l = delivery_left l.delivery
