use Rattle.std.proofs.Common.{ℕ, ◌≡◌, ◌<◌, Some, length, slice_get}
use Rattle.md_judge.specs.declared.log.Finding.{Finding}
use Rattle.md_judge.proofs.Resorted.{AreGatheredTo}
use Rattle.md_judge.proofs.session.Session.sort.Given as goal

abbrev pub invariant-loop-at : goal.invariant-loop-at
invariant-loop-at l = record {
  long : length l.order.items ≡ l.at;
  each : (k : ℕ) (f : Finding) → k < l.at → slice_get l.finding-items k ≡ Some f → slice_get l.order.items k ≡ Some (f.line, k);
}

abbrev pub invariant-loop-at-2 : goal.invariant-loop-at-2
invariant-loop-at-2 l = AreGatheredTo l.fn.self.findings.items l.findings.items l.at-items l.at-index
