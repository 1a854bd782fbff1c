use Rattle.std.proofs.Common.{arith, ◌<◌, ◌+◌, ◌-◌, inl, inr, List, length, take, refl, sym, ap, subst, ◌∙◌}
use Rattle.std.proofs.lemmas.List.{take_more_set, drop-set-lt}
use Rattle.md_driven.specs.Numbers.{refusal_number}
use Rattle.md_ffi.specs.Records.{recorded, Answered}
use Rattle.md_driven.specs.declared.shown.AnswerShown.{AnswerShown}
use Rattle.md_driven.proofs.Laid.{ends_alike_after}
use Rattle.md_ffi.proofs.Records.{answered-more, empty, halted, not-empty}
use Rattle.md_ffi.proofs.calls.run.Goals as goal

pub loop-left-init : goal.loop-left-init
loop-left-init c = record { answered = (refl, refl); kept = refl; within = omega arith }

pub returns-then-done-answers : goal.returns-then-done-answers
returns-then-done-answers c =
    let before = c.loop-left.invariant in
    let some = not-empty c.loop-left.left.now (sym c.is_empty.ensures ∙ c.loop-left-test.true) in
    halted c.loop-left.left.now c.loop-left.world before.within before.answered before.kept
    (inr (inl (some, omega (arith, c.if-done-answers.true, c.loop-left.auto.answers), refl, c.number.ensures)))

pub returns-in-Err : goal.returns-in-Err
returns-in-Err c =
    let before = c.loop-left.invariant in
    let some = not-empty c.loop-left.left.now (sym c.is_empty.ensures ∙ c.loop-left-test.true) in
    let room : 0 < length c.args.answers.now - c.loop-left.done = omega (arith, before.within, c.if-done-answers.false, c.loop-left.auto.answers) in
    let status = c.number-in-Err.ensures ∙ ap refusal_number c.in-Err.ensures.record.1 in
    halted c.loop-left.left.now c.loop-left.world before.within before.answered before.kept
    (inr (inr (inl (some, room, c.in-Err.ensures.record.0, refl, status))))

pub returns-in-Err-call : goal.returns-in-Err-call
returns-in-Err-call c =
    let before = c.loop-left.invariant in
    let room : 0 < length c.args.answers.now - c.loop-left.done = omega (arith, before.within, c.if-done-answers.false, c.loop-left.auto.answers) in
    let r = c.in-Ok.record in
    let it = recorded r.asked r.brought.unique.now r.brought.first.now r.brought.second.now r.rest.now in
    halted c.loop-left.left.now c.loop-left.world before.within before.answered before.kept
    (inr (inr (inr (room, it, c.in-Ok.ensures.record, c.in-Err-call.unanswered, c.in-Err-call.ensures, c.number-in-Err-call.ensures))))

pub loop-left-preserved : goal.loop-left-preserved
loop-left-preserved c =
    let before = c.loop-left.invariant in
    let r = c.in-Ok.record in
    let it = recorded r.asked r.brought.unique.now r.brought.first.now r.brought.second.now r.rest.now in
    let bound : c.loop-left.done < length c.loop-left.answers = omega (arith, before.within, c.if-done-answers.false, c.loop-left.auto.answers) in
    let more = answered-more c.args.now (take c.loop-left.done c.loop-left.answers) c.args.records.now c.loop-left.left.now c.args.world.now c.loop-left.world c.call.new.world
    before.answered it c.in-Ok.ensures.record c.in-Ok-call.answer c.of.result c.of.ensures c.in-Ok-call.ensures in
    record {
      answered = subst (λ (shown : List AnswerShown). Answered c.args.now shown c.args.records.now c.args.world.now r.rest.now c.call.new.world)
          (sym (take_more_set c.loop-left.answers c.loop-left.done c.of.result bound)) more;
      kept = drop-set-lt (c.loop-left.done + 1) c.loop-left.answers c.loop-left.done c.of.result (omega arith)
          ∙ ends_alike_after c.loop-left.done 1 c.loop-left.answers c.args.answers.now before.kept;
      within = omega (arith, bound, c.loop-left.auto.answers);
    }

pub returns : goal.returns
returns c =
    let before = c.loop-left.invariant in
    halted c.loop-left.left.now c.loop-left.world before.within before.answered before.kept
    (inl (empty c.loop-left.left.now (sym c.is_empty.ensures ∙ c.loop-left-test.false), refl, refl))
