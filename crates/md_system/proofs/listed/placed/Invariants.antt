use Rattle.std.proofs.Common.{◌≡◌, map}
use Rattle.md_system.specs.Listings.{listed_in}
use Rattle.md_system.proofs.listed.placed.Given as goal

abbrev pub invariant-loop-name : goal.invariant-loop-name
invariant-loop-name l = l.listed.items ≡ map (listed_in l.place) l.yielded
