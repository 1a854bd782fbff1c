use Rattle.std.proofs.Common.{◌≡◌, ◌-◌, IsTrue, length, take}
use Rattle.md_dirs.specs.Rows.{rows_of}
use Rattle.md_core.specs.Runs.{dirs_of}
use Rattle.md_listing.specs.Readings.{IsInOrder}
use Rattle.md_listing.specs.Rows.{entries_of}
use Rattle.md_listing.proofs.read.gather.Given as goal

abbrev pub invariant-loop-all : goal.invariant-loop-all
invariant-loop-all g l = record {
  entries : l.all.items ≡ entries_of l.place (take l.at (rows_of (dirs_of l.world) l.folder l.place));
  order : IsTrue l.is_in_order → IsInOrder l.all.items;
}

abbrev pub decreases-loop-all : goal.decreases-loop-all
decreases-loop-all g l = length (rows_of (dirs_of l.world) l.folder l.place) - l.at
