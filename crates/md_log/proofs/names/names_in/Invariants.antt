use Rattle.std.proofs.Common.{◌≡◌}
use Rattle.std.specs.Option.{option_copied}
use Rattle.md_log.specs.Names.{after_names, names_at}
use Rattle.md_log.proofs.Shown.{size_of}
use Rattle.md_log.proofs.names.names_in.Given as goal

abbrev pub invariant-loop-left : goal.invariant-loop-left
invariant-loop-left l = after_names l.names.items (names_at (option_copied l.left)) ≡ names_at (option_copied l.fn.rest)

abbrev pub decreases-loop-left : goal.decreases-loop-left
decreases-loop-left l = size_of (option_copied l.left)
