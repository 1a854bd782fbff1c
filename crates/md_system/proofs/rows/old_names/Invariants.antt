use Rattle.std.proofs.Common.{◌≡◌, take}
use Rattle.md_dirs.specs.Rows.{old_names}
use Rattle.md_system.proofs.rows.old_names.Given as goal

abbrev pub invariant-loop-row : goal.invariant-loop-row
invariant-loop-row l = l.names.items ≡ old_names l.now l.seconds (take l.row-index l.rows)
