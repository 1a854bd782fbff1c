use Rattle.std.proofs.Common.{◌≡◌, get_or, true, refl, sym, ap, subst, ◌∙◌}
use Rattle.md_law.specs.History.{next}
use Rattle.md_law.specs.Law.{Breaks}
use Rattle.md_log.specs.declared.clause.Clause.{Clause}
use Rattle.md_log.specs.declared.clause.Clause.TheVariants as clause
use Rattle.md_watch.specs.Found.{breaks}
use Rattle.md_watch.specs.Watches.{Holds}
use Rattle.md_log.specs.Texts.{clauses}
use Rattle.md_judge.specs.declared.clauses.Clauses.{Clauses}
use Rattle.md_judge.specs.declared.session.Session.{Session}
use Rattle.md_judge.specs.Clauses.{Has}
use Rattle.md_judge.specs.Placed.{AreInOrderAtLines, AreBelowAtLine, AddsFinding}
use Rattle.md_judge.specs.Verdict.{AreInOrder, AreEarlier}
use Rattle.md_judge.proofs.Adding.{clauses-numbered, adds-first, adds-next, adds-all}
use Rattle.md_judge.proofs.Ordered.{clause-next}
use Rattle.md_judge.proofs.session.Session.judge_step.Goals as goal

pub loop-clause-init : goal.loop-clause-init
loop-clause-init c = record {
  keeps = record { folders = refl; begun = refl; stretch = refl; allowed = refl };
  watch = refl;
  found = λ o. adds-first o c.args.line clauses _ (record c.args.self.now { watch = c.step.new.self; entries = c.push.new.self });
  ordered = λ order earlier. (order, earlier);
  at_lines = λ order below. (order, below);
}

pub loop-clause-preserved : goal.loop-clause-preserved
loop-clause-preserved c =
    let before = c.loop-clause.invariant in
    let after = c.in_ok-note.ensures in
    let s : Session = record c.args.self.now { watch = c.step.new.self; entries = c.push.new.self } in
    record {
      keeps = record {
        folders = after.keeps.folders ∙ before.keeps.folders;
        begun = after.keeps.begun ∙ before.keeps.begun;
        stretch = after.keeps.stretch ∙ before.keeps.stretch;
        allowed = after.keeps.allowed ∙ before.keeps.allowed;
      };
      watch = after.watch ∙ before.watch;
      found = λ o. adds-next o c.args.line clauses c.loop-clause.clause-index clause.NotADirectory
          ((breaks c.in_ok-broken.broken o ≡ true) × (Has s.allowed o → ⊥)) s c.loop-clause.self c.note.new.self c.loop-clause-test.true
          (before.found o)
          (subst (λ (a : Clauses). AddsFinding o c.args.line ((get_or clauses c.loop-clause.clause-index clause.NotADirectory ≡ o)
          × ((breaks c.in_ok-broken.broken o ≡ true) × (Has a o → ⊥))) c.loop-clause.self c.note.new.self)
          before.keeps.allowed (after.found o));
      ordered = λ order earlier.
          let was = before.ordered order earlier in
          clause-next AreInOrder AreEarlier clauses c.args.line c.loop-clause.clause-index clause.NotADirectory c.loop-clause.self.findings.items
          c.note.new.self.findings.items clauses-numbered c.loop-clause-test.true was.0 was.1 after.ordered;
      at_lines = λ order below.
          let was = before.at_lines order below in
          clause-next AreInOrderAtLines AreBelowAtLine clauses c.args.line c.loop-clause.clause-index clause.NotADirectory c.loop-clause.self.findings.items
          c.note.new.self.findings.items clauses-numbered c.loop-clause-test.true was.0 was.1 after.at_lines;
    }

pub returns-clause-judges : goal.returns-clause-judges
returns-clause-judges c = λ h holds.
    let s = c.args.self.now in
    let kept = c.loop-clause.invariant in
    let found = c.in_ok-broken.ensures.found h holds in
    record {
      allowed = kept.keeps.allowed;
      holds = subst (λ w. Holds (next h c.args.step.now) w) (sym kept.watch) (c.in_ok-broken.ensures.holds h holds);
      found = λ o. adds-all o c.args.line c.loop-clause.clause-index ((breaks c.in_ok-broken.broken o ≡ true) × (Has s.allowed o → ⊥))
          (Breaks o (next h c.args.step.now) × (Has s.allowed o → ⊥)) (record s { watch = c.step.new.self; entries = c.push.new.self }) c.loop-clause.self
          c.loop-clause-test.false (λ both. ((found o).0 both.0, both.1), λ both. ((found o).1 both.0, both.1)) (kept.found o);
      ordered = λ order earlier. (kept.ordered order earlier).0;
      at_lines = λ order below. (kept.at_lines order below).0;
    }

pub returns-clause-keeps : goal.returns-clause-keeps
returns-clause-keeps c =
    let kept = c.loop-clause.invariant.keeps in
    record { folders = kept.folders; begun = kept.begun; stretch = kept.stretch; allowed = kept.allowed }

pub returns-clause-wrong : goal.returns-clause-wrong
returns-clause-wrong c = λ h holds.
    let found = c.in_ok-broken.ensures.found h holds clause.NotADirectory in
    let is = c.breaks.ensures in
    (λ wrong. found.0 (sym is ∙ wrong), λ wrong. is ∙ found.1 wrong)
