use Rattle.std.proofs.Common.{suc, ◌≡◌, length, Ok, Result, sym, ap, subst, ◌∙◌}
use Rattle.md_log.specs.declared.error.LogFault.{LogFault}
use Rattle.md_judge.specs.Logs.{log_by}
use Rattle.md_judge.specs.Taken.{Answers, with_given}
use Rattle.md_judge.proofs.Answering.{on-ok}
use Rattle.md_judge.proofs.Placed.{none-waits}
use Rattle.md_judge.proofs.Taken.{without-all, ok-of, ended-by, any-by}
use Rattle.md_judge.proofs.Answering.{on-ok-by}
use Rattle.md_judge.proofs.session.Session.end.Goals as goal

pub returns : goal.returns
returns c = record {
  still = λ given texts l taken is ticks.
      let w = (taken.placed l is).waiting in
      on-ok c.finish.result (c.finish.ensures.still (none-waits _ (with_given given l) c.args.self.now ticks w) (w.judged.plain ticks)).1;
  answers = λ given texts taken none.
      let ok = taken.log (λ same. c.if-self-eq0.false (taken.lines ∙ ap length same)) in
      let has = ok-of (log_by texts) ok in
      let plain = without-all texts has.0 none has.1 in
      let w = (taken.placed has.0 has.1).waiting in
      let done : c.finish.result ≡ Ok tt =
      (c.finish.ensures.still (none-waits _ (with_given given has.0) c.args.self.now plain w) (w.judged.plain plain)).0 in
      subst (λ (r : Result (Unit {0}) LogFault). Answers r (log_by texts)) (sym done) ok;
  ended = λ given texts taken.
      let ok = taken.log (λ same. c.if-self-eq0.false (taken.lines ∙ ap length same)) in
      let has = ok-of (log_by texts) ok in
      let waiting = (taken.placed has.0 has.1).waiting in
      let number = suc (length texts) in
      on-ok-by c.finish.result _ (λ holds. ended-by given texts has.0 c.finish.new.self has.1
      (holds _ (c.finish.ensures.found number (with_given given has.0) waiting))
      (holds _ (c.finish.ensures.ordered number (with_given given has.0) waiting)));
  answers_any = λ given texts taken.
      let ok = taken.log (λ same. c.if-self-eq0.false (taken.lines ∙ ap length same)) in
      any-by c.finish.result (log_by texts) ok c.finish.ensures.refused;
}
