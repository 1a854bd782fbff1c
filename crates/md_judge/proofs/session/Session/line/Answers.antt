use Rattle.std.proofs.Common.{suc, ◌≡◌, ◌∷◌, ◌++◌, ℕ, List, [], Ok, IsOk, Result, length, sym, subst, ◌∙◌, arith}
use Rattle.std.proofs.lemmas.Result.{err_from_is_err_and}
use Rattle.md_log.specs.declared.clause.Clause.{Clause}
use Rattle.md_log.specs.declared.error.LogFault.{LogFault}
use Rattle.md_judge.specs.declared.session.Session.{Session}
use Rattle.md_judge.specs.Logs.{log_by}
use Rattle.md_judge.specs.Placed.{HasPlaced}
use Rattle.md_judge.specs.Taken.{HasTaken}
use Rattle.md_judge.proofs.Taken.{answers-line, any-line, head-is}
use Rattle.md_judge.proofs.Whole.{takes-line}
use Rattle.md_judge.proofs.session.Session.line.Goals as goal
use Rattle.md_judge.proofs.session.Session.line.Goals.{then-line-gt1+in_ok-take, else-line-gt1+else-ne}

pub returns-in_err-take-clause-answers : goal.returns-in_err-take-clause-answers
returns-in_err-take-clause-answers c =
    let p = err_from_is_err_and c.from_residual-in_err-take.result c.from_residual-in_err-take.ensures.1 in
    λ given texts taken none.
    let next = c.in_ok-line.ensures.next in
    let has = taken.lines in
    let number = c.in_ok-line.line in
    let one : number ≡ suc (length texts) = omega (arith, next, has) in
    answers-line c.from_residual-in_err-take.result given texts c.args.text.now c.args.self.now number taken one
    (λ low. absurd (let high = c.if-line-gt1.true in omega (arith, low, high)))
    (λ high l placed plain. rw (p.1, p.2) (c.in_err-take.ensures.answers l placed plain)) none

pub returns-in_err-take-clause-answers_any : goal.returns-in_err-take-clause-answers_any
returns-in_err-take-clause-answers_any c =
    let p = err_from_is_err_and c.from_residual-in_err-take.result c.from_residual-in_err-take.ensures.1 in
    λ given texts taken.
    let next = c.in_ok-line.ensures.next in
    let has = taken.lines in
    let number = c.in_ok-line.line in
    let one : number ≡ suc (length texts) = omega (arith, next, has) in
    any-line c.from_residual-in_err-take.result given texts c.args.text.now c.args.self.now number taken one
    (λ low. absurd (let high = c.if-line-gt1.true in omega (arith, low, high)))
    (λ high l placed. rw (p.1, p.2) (c.in_err-take.ensures.answers_any l placed))

pub returns : goal.returns
returns c = record {
  taken = λ given texts taken.
      let next = c.in_ok-line.ensures.next in
      let has = taken.lines in
      let number = c.in_ok-line.line in
      let one : number ≡ suc (length texts) = omega (arith, next, has) in
      takes-line given texts c.args.text.now c.args.self.now c.if-line-gt1.self number taken one
      (λ low. elim c.if-line-gt1.branch [
        | then-line-gt1+in_ok-take w ↦ absurd (let high = w.if-line-gt1.true in omega (arith, low, high))
        | else-line-gt1+else-ne w ↦ w.self-is
      ])
      (λ high. elim c.if-line-gt1.branch [
        | then-line-gt1+in_ok-take w ↦ λ l l' placed is.
            subst (λ (v : Session). HasPlaced (suc number) l' v) (sym w.self-is) (w.in_ok-take.ensures.placed l l' placed is)
        | else-line-gt1+else-ne w ↦ absurd (let low = w.if-line-gt1.false in omega (arith, low, high))
      ])
      (answered given texts taken);
  answers = λ given texts taken none. answered given texts taken;
  answers_any = answered;
}
  where
    answered : (given : List Clause) (texts : List (List ℕ)) → HasTaken given texts c.args.self.now
        → IsOk (log_by (texts ++ c.args.text.now ∷ []))
    answered given texts taken =
        let next = c.in_ok-line.ensures.next in
        let has = taken.lines in
        let number = c.in_ok-line.line in
        let one : number ≡ suc (length texts) = omega (arith, next, has) in
        let done : Result (Unit {0}) LogFault = Ok tt in
        any-line done given texts c.args.text.now c.args.self.now number taken one
        (λ low. elim c.if-line-gt1.branch [
          | then-line-gt1+in_ok-take w ↦ absurd (let high = w.if-line-gt1.true in omega (arith, low, high))
          | else-line-gt1+else-ne w ↦ head-is c.args.text.now (sym w.ne.ensures ∙ w.if-ne.false)
        ])
        (λ high. elim c.if-line-gt1.branch [
          | then-line-gt1+in_ok-take w ↦ λ l placed. w.in_ok-take.ensures.answers_any l placed
          | else-line-gt1+else-ne w ↦ absurd (let low = w.if-line-gt1.false in omega (arith, low, high))
        ])
