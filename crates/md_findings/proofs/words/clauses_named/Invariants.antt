use Rattle.std.proofs.Common.{map, take}
use Rattle.md_findings.specs.Asked.{AreNamed}
use Rattle.md_findings.proofs.words.clauses_named.Given as goal

abbrev pub invariant-loop-name : goal.invariant-loop-name
invariant-loop-name l = AreNamed (map (λ name. name.now) (take l.name-index l.names)) l.clauses.items
