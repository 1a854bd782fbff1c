use Rattle.std.proofs.Common.{◌≡◌, []}
use Rattle.crossbeam_deque.specs.Handles.{worker_port, worker_view}
use Rattle.md_index.specs.Deal.{hand}
use Rattle.md_index.proofs.deal.dealt.Given as goal

abbrev pub invariant-loop-next : goal.invariant-loop-next
invariant-loop-next l = (worker_port l.owner ≡ 0) × (worker_view l.owner ≡ hand l.next [])
