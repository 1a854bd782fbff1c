use Rattle.std.proofs.Common.{true, refl, sym, ◌∙◌}
use Rattle.md_judge.specs.declared.session.Session.{Session}
use Rattle.md_judge.proofs.Answering.{on-ok-by, on-ok-same}
use Rattle.md_judge.proofs.Placed.{waits-same, step-settles, step-waits, ticks-none, ticks-some}
use Rattle.md_judge.proofs.session.Session.take_step.Goals as goal

pub returns-in-Ok-clause-placed : goal.returns-in-Ok-clause-placed
returns-in-Ok-clause-placed c = λ l p.
    let s = c.args.self.now in
    let settled = c.in_ok-judge_stretch.ensures.settled c.args.number l
    (waits-same c.args.number l s (record s { has_begun = true }) refl refl refl refl refl p.waiting) in
    let judges = c.in-Ok.ensures.judges _ settled.judged.holds in
    let keeps = c.in-Ok.ensures.keeps in
    step-settles c.args.number l c.args.step c.judge_stretch.new.self _ settled keeps
    (keeps.begun ∙ c.in_ok-judge_stretch.ensures.begun)
    (ticks-none c.args.step.ticks (sym c.is_some.ensures ∙ c.if-is_some.false)) judges

pub returns-then-is_some-clause-placed : goal.returns-then-is_some-clause-placed
returns-then-is_some-clause-placed c = λ l p.
    let s = c.args.self.now in
    let t : Session = record s { has_begun = true; stretch = c.add-waits.new.self } in
    on-ok-same _ c.add-waits.result c.done_at.result c.done_at.ensures.variant
    (on-ok-by c.add-waits.result _ (λ holds.
    step-waits c.args.number l c.args.step s t refl refl refl refl refl
    (ticks-some c.args.step.ticks (sym c.is_some.ensures ∙ c.if-is_some.true)) (holds _ c.add-waits.ensures) p))
