use Rattle.std.proofs.Common.{◌≡◌, true, sym, ◌∙◌}
use Rattle.md_watch.specs.Found.{breaks}
use Rattle.md_judge.specs.Clauses.{Has}
use Rattle.md_judge.proofs.AtLines.{one-at-lines}
use Rattle.md_judge.proofs.Ordered.{one-ordered}
use Rattle.md_judge.proofs.Adding.{adds-one}
use Rattle.md_judge.proofs.session.Session.note.Goals as goal

pub returns-in_ok-add-clause-found : goal.returns-in_ok-add-clause-found
returns-in_ok-add-clause-found c = λ o.
    adds-one c.args.clause o c.args.line _ c.args.self.now.findings.items c.push.new.self.items
    (λ k. (breaks c.args.broken.now k ≡ true) × (Has c.args.self.now.allowed k → ⊥))
    (sym c.breaks.ensures ∙ c.if-breaks.true, λ has. let is = c.contains.ensures.1 has in let not = c.if-not-contains.true in cc (is, not))
    c.in_ok-push.ensures.items

pub returns-in_ok-add-clause-ordered : goal.returns-in_ok-add-clause-ordered
returns-in_ok-add-clause-ordered c =
    one-ordered c.args.self.now.findings.items c.push.new.self.items (record { line = c.args.line; clause = c.args.clause; before = _ })
    c.in_ok-push.ensures.items

pub returns-in_ok-add-clause-at_lines : goal.returns-in_ok-add-clause-at_lines
returns-in_ok-add-clause-at_lines c =
    one-at-lines c.args.self.now.findings.items c.push.new.self.items (record { line = c.args.line; clause = c.args.clause; before = _ })
    c.in_ok-push.ensures.items
