use Rattle.std.proofs.Common.{length, ◌≡◌, ◌++◌, ◌+◌, ◌≤◌}
use Rattle.std.specs.Vec.{vec_len, vec_capacity}
use Rattle.md_listing.proofs.merging.Entries.collect.Given as goal

abbrev pub invariant-loop-entry : goal.invariant-loop-entry
invariant-loop-entry l = record {
  entries : l.all.items ++ l.left ≡ l.fn.self;
  room : vec_len l.all + length l.left ≤ vec_capacity l.all;
}

abbrev pub decreases-loop-entry : goal.decreases-loop-entry
decreases-loop-entry l = length l.left
