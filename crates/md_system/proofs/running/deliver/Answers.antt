use Rattle.std.proofs.Common.{subst, sym, ◌<◌}
use Rattle.md_jobs.specs.Machines.Deliver.{new_delivery, delivery_turn}
use Rattle.md_jobs.specs.Tasks.Delivery.{Delivery}
use Rattle.md_system.proofs.Fewer.{delivery-falls}
use Rattle.md_system.proofs.Runs.{begun, goes, answers}
use Rattle.md_system.proofs.running.deliver.Goals as goal

pub loop-delivery-init : goal.loop-delivery-init
loop-delivery-init g c = (
  begun (delivery_turn 1) (new_delivery c.args.folder c.args.unique c.args.body c.args.chunk) c.args.system.now.log.entries
      c.new-delivery.result c.new-delivery.ensures,
  subst (λ (d : Delivery). 0 < d.chunk) (sym c.new-delivery.ensures) c.requires,
)

pub loop-delivery-preserved : goal.loop-delivery-preserved
loop-delivery-preserved g c = (
  goes (delivery_turn 1) (new_delivery c.args.folder c.args.unique c.args.body c.args.chunk) c.args.system.now.log.entries
      c.loop-delivery.system.log.entries c.step_delivery.new.system.log.entries c.loop-delivery.delivery
      c.step_delivery.new.delivery c.in_ok-answer.field-0 c.loop-delivery.invariant.0 c.in_ok-answer.ensures.steps c.in_default.is,
  (delivery-falls 1 c.loop-delivery.delivery c.step_delivery.new.delivery c.loop-delivery.system.log.entries
      c.step_delivery.new.system.log.entries c.in_ok-answer.field-0 c.loop-delivery.invariant.1 c.in_ok-answer.ensures.steps c.in_default.is).0,
)

pub loop-delivery-smaller : goal.loop-delivery-smaller
loop-delivery-smaller g c =
    (delivery-falls 1 c.loop-delivery.delivery c.step_delivery.new.delivery c.loop-delivery.system.log.entries
    c.step_delivery.new.system.log.entries c.in_ok-answer.field-0 c.loop-delivery.invariant.1 c.in_ok-answer.ensures.steps c.in_default.is).1

pub returns-in-Some-clause-ran : goal.returns-in-Some-clause-ran
returns-in-Some-clause-ran g c =
    answers (delivery_turn 1) (new_delivery c.args.folder c.args.unique c.args.body c.args.chunk) c.args.system.now.log.entries
    c.loop-delivery.system.log.entries c.step_delivery.new.system.log.entries c.loop-delivery.delivery
    c.step_delivery.new.delivery c.in_ok-answer.field-0 c.in-Some.answer c.loop-delivery.invariant.0 c.in_ok-answer.ensures.steps c.in-Some.is
