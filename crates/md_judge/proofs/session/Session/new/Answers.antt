use Rattle.std.proofs.Common.{[], refl}
use Rattle.md_judge.specs.Clauses.{Has}
use Rattle.md_judge.specs.Logs.{empty_log}
use Rattle.md_judge.specs.Taken.{with_given}
use Rattle.md_judge.proofs.Beginning.{beginning-placed}
use Rattle.md_judge.proofs.session.Session.new.Goals as goal

pub returns : goal.returns
returns c = record {
  taken = record {
    lines = refl;
    none = λ none. beginning-placed 2 (with_given [] empty_log) _ (record {
      none = refl;
      folders = c.new.ensures;
      housed = refl;
      begun = refl;
      steps = c.new-5.ensures.waits;
      lines = c.new-5.ensures.lines;
      moved = c.new-5.ensures.moved;
      findings = c.new-3.ensures.items;
      holds = c.new-2.ensures;
      allowed = λ o. (λ is. absurd (c.none.ensures o is), λ is. absurd (let at = is.1 in cc at));
    });
    log = λ some. absurd (some refl);
    placed = λ l is. absurd (cc is);
  };
}
