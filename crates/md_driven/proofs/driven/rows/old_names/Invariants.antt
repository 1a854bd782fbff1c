use Rattle.std.proofs.Common.{◌≡◌, take}
use Rattle.md_jobs.specs.Machines.Clean.{old_names}
use Rattle.md_driven.proofs.driven.rows.old_names.Given as goal

abbrev pub invariant-loop-row : goal.invariant-loop-row
invariant-loop-row l = l.names.items ≡ old_names l.own (take l.row-index l.rows)
