use Rattle.std.proofs.Common.{◌≡◌, ◌++◌, take}
use Rattle.md_dirs.proofs.index.names.push_copies.Given as goal

abbrev pub invariant-loop-row : goal.invariant-loop-row
invariant-loop-row l = l.shown.items ≡ l.initial.shown.items ++ take l.row-index l.rows
