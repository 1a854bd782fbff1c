use Rattle.std.proofs.Common.{◌≡◌, ◌≤◌, ◌++◌, ◌-◌, take}
use Rattle.std.specs.Prelude.{filter}
use Rattle.std.specs.FinSet as set
use Rattle.md_name.specs.Letters.{letters}
use Rattle.md_name.proofs.flags.Flags.write_onto.Given as goal

abbrev pub invariant-loop-self : goal.invariant-loop-self
invariant-loop-self l = (l.place ≤ 52) × (l.text.items ≡ l.fn.text.items ++ filter (λ c. set.contains l.fn.self c) (take l.place letters))

abbrev pub decreases-loop-self : goal.decreases-loop-self
decreases-loop-self l = 52 - l.place
