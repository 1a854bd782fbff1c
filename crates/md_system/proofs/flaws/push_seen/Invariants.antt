use Rattle.std.proofs.Common.{Any, take}
use Rattle.md_system.specs.Checks.{IsFlawOf}
use Rattle.md_system.specs.Gathering.{Tells}
use Rattle.md_system.proofs.flaws.push_seen.Given as goal

abbrev pub invariant-loop-one : goal.invariant-loop-one
invariant-loop-one l =
    Tells (λ f. Any (λ one. IsFlawOf l.seen one f) (take l.one-index l.seen)) l.initial.flaws.items l.flaws.items
