use Rattle.std.proofs.Common.{◌≡◌, ◌++◌, take}
use Rattle.md_dirs.specs.Rows.{old_names}
use Rattle.md_dirs.proofs.old.push_old.Given as goal

abbrev pub invariant-loop-row : goal.invariant-loop-row
invariant-loop-row l = l.names.items ≡ l.fn.names.items ++ old_names l.now l.seconds (take l.row-index l.rows)
