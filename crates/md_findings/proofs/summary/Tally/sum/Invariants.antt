use Rattle.std.proofs.Common.{◌≡◌}
use Rattle.md_findings.specs.Tallies.{sum_of}
use Rattle.md_findings.proofs.summary.Tally.sum.Given as goal

abbrev pub invariant-loop-count : goal.invariant-loop-count
invariant-loop-count l = l.sum ≡ sum_of l.yielded
