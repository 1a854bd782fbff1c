use Rattle.std.proofs.Common.{◌≡◌, ◌≤◌, ◌++◌, take, length}
use Rattle.md_script.specs.Texts.{entries_text}
use Rattle.md_script.proofs.listing.push_listing.Given as goal

abbrev pub invariant-loop-entry : goal.invariant-loop-entry
invariant-loop-entry l = record {
  lines : (l.out.items ++ take l.filled l.buffer) ++ entries_text l.entries ≡ l.fn.out.items ++ entries_text l.fn.listing;
  within : l.filled ≤ length l.buffer;
  long : 2048 ≤ length l.buffer;
}

abbrev pub decreases-loop-entry : goal.decreases-loop-entry
decreases-loop-entry l = length l.entries
