use Rattle.std.proofs.Common.{◌≡◌, ◌↔◌, List, Option, Some, length, slice_get, refl, sym, ap, subst, ◌∙◌}
use Rattle.std.specs.Prelude.{unwrap_or}
use Rattle.std.specs.Prelude.{IsTrue}
use Rattle.std.proofs.lemmas.Result.{IfOk-at_ok}
use Rattle.md_law.specs.Clauses.{NotADirectory}
use Rattle.md_law.specs.Law.{Breaks}
use Rattle.md_log.specs.declared.clause.Clause.TheVariants as clause
use Rattle.md_law.specs.History.{next as going}
use Rattle.md_log.specs.declared.line.Step.{Step}
use Rattle.md_judge.specs.declared.session.Session.{Session}
use Rattle.md_judge.specs.declared.stretch.Waiting.{Waiting}
use Rattle.md_judge.specs.Placed.{Judges}
use Rattle.md_judge.specs.Verdict.{history}
use Rattle.md_judge.proofs.Answering.{holds-at}
use Rattle.md_judge.proofs.Judging.{judged-next}
use Rattle.md_judge.proofs.session.Session.judge_waiting.Goals as goal

pub returns-in-Ok-false-clause-had : goal.returns-in-Ok-false-clause-had
returns-in-Ok-false-clause-had c = (
  c.in-Some.waiting,
  ap (λ (ws : List (Option Waiting)). slice_get ws c.args.at) (sym (λ i. (c.place.ensures.steps i).items)) ∙ c.in-Some.ensures.had,
)

pub returns-in-Ok-false-clause-judged : goal.returns-in-Ok-false-clause-judged
returns-in-Ok-false-clause-judged c = λ number l m order i x y read judged next ticks.
    let s = c.args.self.now in
    let s' : Session = record s { stretch = c.take.new.self } in
    let t = c.judge_step-judged.new.self in
    let r = c.judge_step-judged.result in
    let call = c.judge_step-judged.ensures in
    let past = history m (length order) in
    let keeps = holds-at r c.in-Ok-false.field-0 c.in-Ok-false.is call.keeps in
    let had : slice_get s.stretch.steps.items c.args.at ≡ Some (Some c.in-Some.waiting) =
    ap (λ (ws : List (Option Waiting)). slice_get ws c.args.at) (sym (λ i. (c.place.ensures.steps i).items)) ∙ c.in-Some.ensures.had in
    let moment : c.line-moment.result ≡ x.number = c.line-moment.ensures ∙ ap (λ o. unwrap_or o 0) next.moment in
    let line : c.line-line.result ≡ y.number = c.line-line.ensures ∙ ap (λ o. unwrap_or o 0) next.line in
    let step : c.in-Some.waiting.step ≡ y.step = next.waits c.in-Some.waiting had in
    let told : Judges past c.line-line.result c.in-Some.waiting.step s' t =
    holds-at r c.in-Ok-false.field-0 c.in-Ok-false.is (call.judges past judged.holds) in
    let judges = subst (λ (z : Step). Judges past y.number z s' t) step (subst (λ n. Judges past n c.in-Some.waiting.step s' t) line told) in (
      record { folders = keeps.folders ∙ read.folders; housed = read.housed; numbered = read.numbered },
      judged-next number l m order i x y s read judged next.here next.there next.comes t
          (record { allowed = judges.allowed; holds = judges.holds; found = judges.found; ordered = judges.ordered; at_lines = judges.at_lines })
          (λ none.
          let before = c.place.ensures.moved (sym c.take.ensures.moved ∙ (λ k. (sym keeps.stretch k).moved) ∙ none) in
          (sym moment ∙ before.0 ∙ line, before.1))
          (λ _ wrong. let is = (IfOk-at_ok (λ w. IsTrue w ↔ Breaks clause.NotADirectory (going past c.in-Some.waiting.step)) c.in-Ok-false.is (call.wrong past judged.holds)).1
          (subst (λ (z : Step). NotADirectory (going past z)) (sym step) wrong) in let not = c.in-Ok-false.field-0-test in cc (is, not))
          (λ plain. absurd (ticks (plain i y next.there))),
    )
