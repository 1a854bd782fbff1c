use Rattle.md_core.proofs.Values.{cleaning_turn, delivery_turn, errand_turn}
use Rattle.md_jobs.specs.Tasks.Views.Errands.{errand_view}
use Rattle.md_core.specs.Tasks.Task.{Deliver, Errand, Clean}
use Rattle.md_core.specs.declared.jobs.task.Task.TheVariants as held
use Rattle.md_core.proofs.Machines.Wrapping.{takes-wrapped, ends-wrapped, turn-wrapped, turn-plain}
use Rattle.md_core.proofs.jobs.task.Task.turn.Goals as goal

pub returns-in-Deliver : goal.returns-in-Deliver
returns-in-Deliver g c =
    let turn = delivery_turn c.args.job c.in-Deliver.delivery c.args.at in
    rw c.in-Deliver.is
    (turn-wrapped held.Deliver _ _ _ _ _ _ _ _ c.turn.result
    (λ t. takes-wrapped Deliver turn c.args.at _ t.out t.effect.value c.turn.new.self _) c.turn.ensures)

pub returns-in-Errand : goal.returns-in-Errand
returns-in-Errand g c =
    let turn = errand_turn c.args.job (errand_view c.in-Errand.errand) in
    let called = c.turn-in-Errand in
    rw c.in-Errand.is
    (turn-wrapped held.Errand _ _ _ _ _ _ _ _ called.result
    (λ t. ends-wrapped Errand turn c.args.at _ t.out t.effect.value (errand_view called.new.self) _) called.ensures)

pub returns-in-Clean : goal.returns-in-Clean
returns-in-Clean g c =
    let turn = cleaning_turn c.in-Clean.cleaning c.args.at.own in
    let called = c.turn-in-Clean in
    rw c.in-Clean.is
    (turn-plain held.Clean _ _ _ _ _ _ _ called.result
    (λ t. takes-wrapped Clean turn c.args.at _ t.out t.effect.value called.new.self _) called.ensures.ok called.ensures.plain
    called.ensures.refused called.ensures.task)
