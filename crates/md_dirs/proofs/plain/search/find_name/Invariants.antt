use Rattle.std.proofs.Common.{IsTrue, take, length, ◌≤◌, ◌-◌}
use Rattle.md_dirs.proofs.Sorted.{all_below, EndsAbove}
use Rattle.md_dirs.specs.Path.{path_of, path_cmp}
use Rattle.md_dirs.proofs.plain.search.find_name.Given as goal

abbrev pub invariant-loop-low : goal.invariant-loop-low
invariant-loop-low l = record {
  ordered : l.low ≤ l.high;
  within : l.high ≤ length l.rows;
  below : IsTrue (all_below path_cmp (path_of l.folder l.place l.name) (take l.low l.rows));
  above : EndsAbove path_cmp l.rows (path_of l.folder l.place l.name) l.high;
}

abbrev pub decreases-loop-low : goal.decreases-loop-low
decreases-loop-low l = l.high - l.low
