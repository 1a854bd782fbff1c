use Rattle.std.proofs.Common.{◌≡◌, ◌++◌, ◌+◌, ◌-◌, ◌≤◌, IsTrue, length, take}
use Rattle.std.specs.Vec.{vec_len, vec_capacity}
use Rattle.md_listing.specs.Readings.{IsInOrder}
use Rattle.md_listing.specs.Rows.{entries_of}
use Rattle.md_listing.proofs.read.push_rows.Given as goal

abbrev pub invariant-loop-row : goal.invariant-loop-row
invariant-loop-row l = record {
  entries : l.all.items ≡ l.fn.all.items ++ entries_of l.place (take l.row-index l.rows);
  order : IsTrue l.is_in_order → (IsTrue l.were_in_order → IsInOrder l.fn.all.items) → IsInOrder l.all.items;
  room : vec_len l.all + (length l.rows - l.row-index) ≤ vec_capacity l.all;
}
