use Rattle.std.proofs.Common.{◌↔◌, List, sym, subst}
use Rattle.md_judge.specs.declared.log.Finding.{Finding}
use Rattle.md_judge.specs.Orders.{AreFoundInOrder}
use Rattle.md_judge.specs.Taken.{by_law}
use Rattle.md_judge.specs.Verdict.{AreInOrder, IsAmong, IsFinding}
use Rattle.md_judge.proofs.Taken.{found-all, ordered-all, placed-all}
use Rattle.md_judge.proofs.log.judge.Goals as goal

pub returns-in-Ok-clause-found : goal.returns-in-Ok-clause-found
returns-in-Ok-clause-found c = λ l is none n o.
    subst (λ (fs : List Finding). IsAmong fs n o ↔ IsFinding (by_law l) n o) (λ i. (sym c.take_findings.ensures i).items)
    (found-all c.args.log.now c.read_whole.new.session c.in-Ok.ensures.taken l is none n o)

pub returns-in-Ok-clause-ordered : goal.returns-in-Ok-clause-ordered
returns-in-Ok-clause-ordered c =
    subst (λ (fs : List Finding). AreInOrder fs) (λ i. (sym c.take_findings.ensures i).items)
    (ordered-all c.args.log.now c.read_whole.new.session c.in-Ok.ensures.ended c.in-Ok.ensures.answers_any)

pub returns-in-Ok-clause-placed : goal.returns-in-Ok-clause-placed
returns-in-Ok-clause-placed c = λ l is.
    subst (λ (fs : List Finding). AreFoundInOrder (by_law l) fs) (λ i. (sym c.take_findings.ensures i).items)
    (placed-all c.args.log.now c.read_whole.new.session c.in-Ok.ensures.ended l is)
