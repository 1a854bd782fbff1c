use Rattle.std.proofs.Common.{Any, take}
use Rattle.md_system.specs.Checks.{IsUnused}
use Rattle.md_system.specs.Gathering.{Tells}
use Rattle.md_system.proofs.flaws.push_unused.Given as goal

abbrev pub invariant-loop-file : goal.invariant-loop-file
invariant-loop-file l =
    Tells (λ f. Any (λ file. IsUnused l.now file f) (take l.file-index l.tmp)) l.initial.flaws.items l.flaws.items
