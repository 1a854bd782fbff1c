use Rattle.std.proofs.Common.{◌+◌, ◌-◌, length}
use Rattle.md_core.proofs.Values.{rows_of, IsLookOf}
use Rattle.md_core.proofs.Worlds.Loading.Rows.{entries_until}
use Rattle.md_core.proofs.world.looking.look_in.Given as goal

abbrev pub invariant-loop-row : goal.invariant-loop-row
invariant-loop-row g l =
    let s = (g.D.Dirs.device l.dirs).state in
    IsLookOf s (entries_until s l.folder l.place (l.at + l.row)) l.seen

abbrev pub invariant-loop-rows : goal.invariant-loop-rows
invariant-loop-rows g l =
    let s = (g.D.Dirs.device l.dirs).state in
    IsLookOf s (entries_until s l.folder l.place l.at) l.seen

abbrev pub decreases-loop-rows : goal.decreases-loop-rows
decreases-loop-rows g l = length (rows_of (g.D.Dirs.device l.dirs).state l.folder l.place) - l.at
