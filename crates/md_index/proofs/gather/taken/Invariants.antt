use Rattle.std.proofs.Common.{◌≡◌}
use Rattle.md_index.proofs.gather.taken.Given as goal

abbrev pub invariant-loop-worker : goal.invariant-loop-worker
invariant-loop-worker l = l.given ≡ l.fn.given
