use Rattle.std.proofs.Common.{◌≡◌, length}
use Rattle.md_dirs.specs.Rows.{row_named}
use Rattle.md_driven.proofs.driven.rows.first_named.Given as goal

-- no row so far is the message's
abbrev pub invariant-loop-row : goal.invariant-loop-row
invariant-loop-row l = row_named l.unique l.rows ≡ row_named l.unique l.rest

-- each row is passed once
abbrev pub decreases-loop-row : goal.decreases-loop-row
decreases-loop-row l = length l.rest
