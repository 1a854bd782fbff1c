use Rattle.std.proofs.Common.{◌≡◌, ◌++◌, map, take, drop}
use Rattle.md_findings.specs.Tallies.{added}
use Rattle.md_findings.proofs.summary.Tally.add.Given as goal

abbrev pub invariant-loop-count : goal.invariant-loop-count
invariant-loop-count l =
    l.count-items ≡ map (added l.clause l.line) (take l.count-index l.initial.count-items) ++ drop l.count-index l.initial.count-items
