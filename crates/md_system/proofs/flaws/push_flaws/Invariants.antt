use Rattle.std.proofs.Common.{Contains, take}
use Rattle.md_system.specs.Checks.{IsFlawOf}
use Rattle.md_system.specs.Gathering.{Tells}
use Rattle.md_system.proofs.flaws.push_flaws.Given as goal

abbrev pub invariant-loop-kind : goal.invariant-loop-kind
invariant-loop-kind l =
    Tells (λ f. IsFlawOf l.seen l.one f × Contains (take l.kind-index l.kind-items) f.kind) l.initial.flaws.items l.flaws.items
