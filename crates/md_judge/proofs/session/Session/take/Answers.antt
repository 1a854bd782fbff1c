use Rattle.std.proofs.Common.{suc, ◌≡◌, ◌++◌, ◌∷◌, [], Ok, OnOk, sym, ap, subst, ◌∙◌}
use Rattle.md_log.specs.declared.line.Line.TheVariants as line
use Rattle.md_log.specs.declared.line.Step.{Step}
use Rattle.md_log.specs.Lines.{line_of}
use Rattle.md_judge.specs.Logs.{Log, with_step}
use Rattle.md_judge.specs.Placed.{HasPlaced}
use Rattle.md_judge.proofs.Lines.{text-over, text-line, none-yet, is-head}
use Rattle.md_judge.proofs.Placed.{none-waits, over-placed, has-same}
use Rattle.md_judge.proofs.Taken.{over-answers, step-answers, step-any, head-answers, head-wrong, text-wrong}
use Rattle.md_judge.proofs.session.Session.take.Goals as goal

pub returns-then-is_passed_over : goal.returns-then-is_passed_over
returns-then-is_passed_over c = record {
  placed = λ l l' p is.
      subst (λ (m : Log). HasPlaced (suc c.args.number) m c.args.self.now)
      (text-over c.args.number l l' c.args.text.now (sym c.is_passed_over.ensures ∙ c.if-is_passed_over.true) is)
      (over-placed c.args.number l c.args.self.now p);
  answers = λ l p plain. over-answers c.args.number l c.args.text.now (sym c.is_passed_over.ensures ∙ c.if-is_passed_over.true);
  answers_any = λ l p. over-answers c.args.number l c.args.text.now (sym c.is_passed_over.ensures ∙ c.if-is_passed_over.true);
}

pub returns-in-Err-clause-answers : goal.returns-in-Err-clause-answers
returns-in-Err-clause-answers c = λ l p plain.
    text-wrong c.args.number l c.args.self.now c.args.text.now c.in-Err.fault _ (has-same c.args.number l c.args.self.now p)
    (sym c.is_passed_over.ensures ∙ c.if-is_passed_over.false) c.in-Err.ensures c.fault_at.ensures

pub returns-in-Err-clause-answers_any : goal.returns-in-Err-clause-answers_any
returns-in-Err-clause-answers_any c = λ l p known found few.
    text-wrong c.args.number l c.args.self.now c.args.text.now c.in-Err.fault _ (has-same c.args.number l c.args.self.now p)
    (sym c.is_passed_over.ensures ∙ c.if-is_passed_over.false) c.in-Err.ensures c.fault_at.ensures known

pub returns-in-Step : goal.returns-in-Step
returns-in-Step c = record {
  placed = λ l l' p is.
      let s = c.args.self.now in
      let step = c.in-Step.step in
      let has : line_of s.folders s.has_begun c.args.text.now ≡ Ok (line.Step step) = c.in-Ok.ensures ∙ ap Ok c.in-Step.is in
      let now = text-line c.args.number l l' s c.args.text.now (line.Step step) (has-same c.args.number l s p)
      (sym c.is_passed_over.ensures ∙ c.if-is_passed_over.false) has is in
      let same : with_step l c.args.number step ≡ l' = cc now in
      subst (λ (m : Log). OnOk c.take_step.result (HasPlaced (suc c.args.number) m c.take_step.new.self)) same (c.take_step.ensures.placed l p);
  answers = λ l p plain.
      step-answers c.take_step.result c.args.number l c.args.self.now c.args.text.now c.in-Step.step (has-same c.args.number l c.args.self.now p)
      (sym c.is_passed_over.ensures ∙ c.if-is_passed_over.false) (c.in-Ok.ensures ∙ ap Ok c.in-Step.is)
      (c.take_step.ensures.refused (none-waits c.args.number l c.args.self.now plain p.waiting));
  answers_any = λ l p.
      step-any c.take_step.result c.args.number l c.args.self.now c.args.text.now c.in-Step.step (has-same c.args.number l c.args.self.now p)
      (sym c.is_passed_over.ensures ∙ c.if-is_passed_over.false) (c.in-Ok.ensures ∙ ap Ok c.in-Step.is) c.take_step.ensures.unplaced;
}

pub returns-in-Ok-take_head : goal.returns-in-Ok-take_head
returns-in-Ok-take_head c =
    let s = c.args.self.now in
    let other : (x : Step) → c.in-Ok.line ≡ line.Step x → ⊥ = λ x same. c.in_default.not-Step x same in
    let over = sym c.is_passed_over.ensures ∙ c.if-is_passed_over.false in
    record {
      placed = λ l l' p is.
          let same = has-same c.args.number l s p in
          let begins = none-yet l s c.args.text.now same c.in-Ok.line other c.in-Ok.ensures in
          let more = text-line c.args.number l l' s c.args.text.now c.in-Ok.line same over c.in-Ok.ensures is in
          c.in-Ok-take_head.ensures.placed l l' p begins (is-head c.in-Ok.line other) more;
      answers = λ l p plain.
          let same = has-same c.args.number l s p in
          let begins = none-yet l s c.args.text.now same c.in-Ok.line other c.in-Ok.ensures in
          head-answers c.args.number l s c.args.text.now c.in-Ok.line same over c.in-Ok.ensures (c.in-Ok-take_head.ensures.agrees l p begins);
      answers_any = λ l p.
          let same = has-same c.args.number l s p in
          let begins = none-yet l s c.args.text.now same c.in-Ok.line other c.in-Ok.ensures in
          head-answers c.args.number l s c.args.text.now c.in-Ok.line same over c.in-Ok.ensures (c.in-Ok-take_head.ensures.agrees l p begins);
    }

pub returns-in-Err-take_head : goal.returns-in-Err-take_head
returns-in-Err-take_head c =
    let s = c.args.self.now in
    let other : (x : Step) → c.in-Ok.line ≡ line.Step x → ⊥ = λ x same. c.in_default.not-Step x same in
    let over = sym c.is_passed_over.ensures ∙ c.if-is_passed_over.false in
    record {
      placed = λ l l' p is. tt;
      answers = λ l p plain.
          let same = has-same c.args.number l s p in
          let begins = none-yet l s c.args.text.now same c.in-Ok.line other c.in-Ok.ensures in
          head-wrong c.args.number l s c.args.text.now c.in-Ok.line c.in-Err-take_head.fault _ same over c.in-Ok.ensures
          (c.in-Err-take_head.ensures.agrees l p begins) c.fault_at-in-Err-take_head.ensures;
      answers_any = λ l p known found few.
          let same = has-same c.args.number l s p in
          let begins = none-yet l s c.args.text.now same c.in-Ok.line other c.in-Ok.ensures in
          head-wrong c.args.number l s c.args.text.now c.in-Ok.line c.in-Err-take_head.fault _ same over c.in-Ok.ensures
          (c.in-Err-take_head.ensures.agrees l p begins) c.fault_at-in-Err-take_head.ensures known;
    }
