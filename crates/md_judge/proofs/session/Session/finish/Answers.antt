use Rattle.md_judge.proofs.Placed.{found-settled}
use Rattle.md_judge.proofs.Answering.{on-ok-by, on-ok-same}
use Rattle.md_judge.proofs.session.Session.finish.Goals as goal

pub returns-then-is_in_order-clause-found : goal.returns-then-is_in_order-clause-found
returns-then-is_in_order-clause-found c = λ number l w.
    let settled = c.in_ok-judge_stretch.ensures.settled number l w in
    found-settled number l c.judge_stretch.new.self c.judge_stretch.new.self.findings.items (λ n o. (λ is. is, λ is. is)) settled

pub returns-then-is_in_order-clause-ordered : goal.returns-then-is_in_order-clause-ordered
returns-then-is_in_order-clause-ordered c = λ number l w.
    (c.in_ok-judge_stretch.ensures.settled number l w).judged.ordered (c.is_in_order.ensures.0 c.if-is_in_order.true)

pub returns-clause-found : goal.returns-clause-found
returns-clause-found c = λ number l w.
    on-ok-same _ c.sort.result c.done_at.result c.done_at.ensures.variant
    (on-ok-by c.sort.result _ (λ holds.
    found-settled number l c.judge_stretch.new.self c.sort.new.self.findings.items (λ n o. holds _ (c.sort.ensures.same n o))
    (c.in_ok-judge_stretch.ensures.settled number l w)))

pub returns-clause-ordered : goal.returns-clause-ordered
returns-clause-ordered c = λ number l w.
    on-ok-same _ c.sort.result c.done_at.result c.done_at.ensures.variant
    (c.sort.ensures.sorted (c.in_ok-judge_stretch.ensures.settled number l w).judged.at_lines)
