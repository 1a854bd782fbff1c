use Rattle.std.proofs.Common.{◌≡◌, true}
use Rattle.md_log.specs.declared.clause.Clause.{Clause}
use Rattle.md_watch.specs.Found.{breaks}
use Rattle.md_judge.specs.Clauses.{Has}
use Rattle.md_judge.specs.Verdict.{AreEarlier, AreInOrder}
use Rattle.md_judge.specs.Placed.{AreInOrderAtLines, AreBelowAtLine, AddsFinding, KeepsHead}
use Rattle.md_judge.proofs.Adding.{Passed}
use Rattle.md_judge.proofs.session.Session.judge_step.Given as goal

abbrev pub invariant-loop-clause : goal.invariant-loop-clause
invariant-loop-clause l = record {
  keeps : KeepsHead l.initial.self l.self;
  watch : l.self.watch ≡ l.initial.self.watch;
  found : (c : Clause) → AddsFinding c l.line
      (Passed c l.clause-items l.clause-index × ((breaks l.broken c ≡ true) × (Has l.initial.self.allowed c → ⊥))) l.initial.self l.self;
  ordered : AreInOrder l.initial.self.findings.items → AreEarlier l.initial.self.findings.items l.line 0
      → AreInOrder l.self.findings.items × AreEarlier l.self.findings.items l.line l.clause-index;
  at_lines : AreInOrderAtLines l.initial.self.findings.items → AreBelowAtLine l.initial.self.findings.items l.line 0
      → AreInOrderAtLines l.self.findings.items × AreBelowAtLine l.self.findings.items l.line l.clause-index;
}
