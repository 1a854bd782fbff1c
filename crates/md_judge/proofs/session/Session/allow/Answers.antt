use Rattle.std.proofs.Common.{◌∷◌, refl}
use Rattle.md_judge.specs.Logs.{empty_log}
use Rattle.md_judge.specs.Taken.{with_given}
use Rattle.md_judge.proofs.Beginning.{placed-beginning, beginning-placed, allows}
use Rattle.md_judge.proofs.session.Session.allow.Goals as goal

pub returns-then-ne-clause-taken : goal.returns-then-ne-clause-taken
returns-then-ne-clause-taken c = λ other given taken. record {
  lines = taken.lines;
  none = λ none. beginning-placed 2 (with_given (c.args.clause ∷ given) empty_log) _
      (allows (with_given given empty_log) c.args.self.now _ c.args.clause
      (placed-beginning 2 (with_given given empty_log) c.args.self.now refl (taken.none refl)) refl refl refl refl refl c.add.ensures);
  log = λ some. absurd (some refl);
  placed = λ l is. absurd (cc is);
}
