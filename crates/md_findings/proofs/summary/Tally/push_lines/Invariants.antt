use Rattle.std.proofs.Common.{◌≡◌, ◌++◌}
use Rattle.std.specs.List.{flat_map}
use Rattle.md_findings.specs.Tallies.{count_line}
use Rattle.md_findings.proofs.summary.Tally.push_lines.Given as goal

abbrev pub invariant-loop-count : goal.invariant-loop-count
invariant-loop-count l = l.out.items ≡ l.initial.out.items ++ flat_map count_line l.yielded
