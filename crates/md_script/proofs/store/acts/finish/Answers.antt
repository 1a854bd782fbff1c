use Rattle.std.proofs.Common.{◌++◌, ◌∙◌, ap, sym, is_some, append_assoc}
use Rattle.md_script.specs.Sessions.{finish_in}
use Rattle.md_script.proofs.Acts.{passes}
use Rattle.md_script.proofs.Finishing.{finishes-start, finishes-more, finishes-end, finishes-unrefused, finishes-refused}
use Rattle.md_script.proofs.store.acts.finish.Goals as goal

pub loop-event-init : goal.loop-event-init
loop-event-init g c =
    let step = c.in_ok-step.ensures.step in
    let law = c.a_step_leaves_its_job_there.ensures in
    (step.0, step.2, finishes-start law.left law.stays _ _ _ _ step.1 c.in_ok-step.ensures.nearer, c.in_ok-step.ensures.waits)

pub loop-event-preserved : goal.loop-event-preserved
loop-event-preserved g c =
    let so_far = c.loop-event.invariant in
    let step = c.in_ok-step-2.ensures.step in
    let law = c.a_step_leaves_its_job_there.ensures in (
      so_far.0 ++ step.0,
      step.2 ∙ ap (λ text. text ++ step.0) so_far.1 ∙ append_assoc c.args.out.now.items so_far.0 step.0,
      finishes-more law.left law.stays _ _ _ _ _ _ so_far.2 step.1 c.in_ok-step-2.ensures.nearer,
      λ l begun. c.in_ok-step-2.ensures.waits l (so_far.3 l begun),
    )

pub returns-clause-finish : goal.returns-clause-finish
returns-clause-finish g c =
    let so_far = c.loop-event.invariant in
    (so_far.0, finishes-end _ _ _ _ so_far.2 (ap is_some (sym c.answer.ensures) ∙ c.loop-event-test.ensures), so_far.1)

pub returns-in_err-step-clause-finish : goal.returns-in_err-step-clause-finish
returns-in_err-step-clause-finish g c =
    passes _ _ _ _ _ _ c.from_residual.ensures.1
    (finishes-refused c.args.world.now c.args.event c.step.new.world c.step.new.world c.args.out.now.items c.step.new.out.items
    c.in_err-step.field-0.0 c.in_err-step.ensures.step)

pub returns-in_err-step-2-clause-finish : goal.returns-in_err-step-2-clause-finish
returns-in_err-step-2-clause-finish g c =
    passes (finish_in c.args.world.now c.args.event) c.step-in-loop-event.new.world c.args.out.now.items c.step-in-loop-event.new.out.items
    c.in_err-step-2.field-0.0 _
    c.from_residual-in_err-step-2.ensures.1
    (finishes-unrefused c.args.world.now c.args.event c.loop-event.world c.loop-event.invariant.0 c.loop-event.invariant.2
    (ap is_some (sym c.answer.ensures) ∙ c.loop-event-test.ensures)
    (finish_in c.args.world.now c.args.event) c.step-in-loop-event.new.world c.step-in-loop-event.new.world c.loop-event.out.items c.args.out.now.items
    c.step-in-loop-event.new.out.items
    c.in_err-step-2.field-0.0 c.in_err-step-2.ensures.step)

pub returns-clause-waits : goal.returns-clause-waits
returns-clause-waits g c = c.loop-event.invariant.3

pub returns-in_err-step-2-clause-waits : goal.returns-in_err-step-2-clause-waits
returns-in_err-step-2-clause-waits g c = λ l begun. c.in_err-step-2.ensures.waits l (c.loop-event.invariant.3 l begun)
