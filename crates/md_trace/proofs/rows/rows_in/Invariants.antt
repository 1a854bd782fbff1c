use Rattle.std.proofs.Common.{◌≡◌, ◌++◌, ◌-◌, drop, length}
use Rattle.md_dirs.specs.Rows.{rows_of}
use Rattle.md_trace.proofs.rows.rows_in.Given as goal

abbrev pub invariant-loop-rows : goal.invariant-loop-rows
invariant-loop-rows g l =
    let all = rows_of (g.D.Dirs.device l.dirs).state l.folder l.place in
    l.rows.items ++ drop (length l.rows.items) all ≡ all

abbrev pub decreases-loop-rows : goal.decreases-loop-rows
decreases-loop-rows g l = length (rows_of (g.D.Dirs.device l.dirs).state l.folder l.place) - length l.rows.items
