use Rattle.std.proofs.Common.{◌≡◌, [], refl, sym, subst, ◌∙◌}
use Rattle.std.proofs.lemmas.Result.{err_from_is_err_and}
use Rattle.md_head.specs.Header.{lines_of}
use Rattle.md_judge.specs.declared.session.Session.{Session}
use Rattle.md_judge.specs.Taken.{Answers, AnswersAny, HasTaken, beside_law}
use Rattle.md_judge.proofs.Answering.{ok-then}
use Rattle.md_judge.proofs.Taken.{takes-next, taken-all, text-stays, text-stays-any, log-is}
use Rattle.md_judge.proofs.log.read_whole.Goals as goal

pub loop-text-init : goal.loop-text-init
loop-text-init c = ([], refl, c.requires.is_new)

pub loop-text-preserved : goal.loop-text-preserved
loop-text-preserved c =
    takes-next c.args.log.now c.in-Some.text.now (lines_of c.loop-text.left.now) (lines_of c.in-Some.others.now) c.loop-text.session c.line.new.self
    c.in-Some.ensures.lines c.loop-text.invariant (c.in_ok-line.ensures.taken beside_law)

pub returns-in_err-line-clause-answers : goal.returns-in_err-line-clause-answers
returns-in_err-line-clause-answers c =
    let p = err_from_is_err_and c.from_residual.result c.from_residual.ensures.1 in
    λ none. rw (p.1, p.2)
    (text-stays c.args.log.now c.in-Some.text.now (lines_of c.loop-text.left.now) (lines_of c.in-Some.others.now) c.loop-text.session _
    c.in-Some.ensures.lines c.loop-text.invariant (c.in_err-line.ensures.answers beside_law) none)

pub returns-in_err-line-clause-answers_any : goal.returns-in_err-line-clause-answers_any
returns-in_err-line-clause-answers_any c =
    let p = err_from_is_err_and c.from_residual.result c.from_residual.ensures.1 in
    rw (p.1, p.2)
    (text-stays-any c.args.log.now c.in-Some.text.now (lines_of c.loop-text.left.now) (lines_of c.in-Some.others.now) c.loop-text.session _
    c.in-Some.ensures.lines c.loop-text.invariant (c.in_err-line.ensures.answers_any beside_law))

pub returns : goal.returns
returns c =
    let texts = lines_of c.args.log.now in
    let s = c.loop-text.session in
    let t = c.end.new.self in
    let taken : HasTaken beside_law texts s = taken-all c.args.log.now (lines_of c.loop-text.left.now) s c.in_default.ensures.lines c.loop-text.invariant in
    record {
      taken = λ l is none.
          ok-then c.end.result (t ≡ s) (HasTaken beside_law texts t) (λ same. subst (λ (v : Session). HasTaken beside_law texts v) (sym same) taken)
          (c.end.ensures.still beside_law texts l taken (sym (log-is c.args.log.now) ∙ is) none);
      ended = c.end.ensures.ended beside_law texts taken;
      answers = λ none. subst (λ log. Answers c.end.result log) (sym (log-is c.args.log.now)) (c.end.ensures.answers beside_law texts taken none);
      answers_any = subst (λ log. AnswersAny c.end.result log) (sym (log-is c.args.log.now)) (c.end.ensures.answers_any beside_law texts taken);
    }
