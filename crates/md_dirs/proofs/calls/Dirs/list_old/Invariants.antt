use Rattle.std.proofs.Common.{◌≡◌, ◌≤◌, ◌-◌, length, take}
use Rattle.md_dirs.specs.Rows.{old_names, rows_of}
use Rattle.md_dirs.proofs.calls.Dirs.list_old.Given as goal

abbrev pub invariant-loop-from : goal.invariant-loop-from
invariant-loop-from g l = record {
  within : l.from ≤ length (rows_of (g.Self.Dirs.device l.self).state l.folder l.place);
  old : l.names.items ≡ old_names l.now l.seconds (take l.from (rows_of (g.Self.Dirs.device l.self).state l.folder l.place));
}

abbrev pub decreases-loop-from : goal.decreases-loop-from
decreases-loop-from g l = length (rows_of (g.Self.Dirs.device l.self).state l.folder l.place) - l.from
