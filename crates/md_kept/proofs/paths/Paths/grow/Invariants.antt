use Rattle.std.proofs.Common.{◌≡◌, ◌+◌, ◌-◌, ℕ, List, length}
use Rattle.md_kept.specs.Directories.{file_named}
use Rattle.md_kept.proofs.paths.Paths.grow.Given as goal

abbrev pub invariant-loop-self : goal.invariant-loop-self
invariant-loop-self l = (m : ℕ) (q : List ℕ) → file_named l.self m q ≡ file_named l.initial.self m q

abbrev pub decreases-loop-self : goal.decreases-loop-self
decreases-loop-self l = l.number + 1 - length l.self.directories.items
