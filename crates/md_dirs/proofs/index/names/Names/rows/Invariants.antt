use Rattle.std.proofs.Common.{◌≡◌, ◌-◌, length, map, take}
use Rattle.std.specs.FinMap as finmap
use Rattle.md_dirs.specs.Files.{files_of, name_row}
use Rattle.md_dirs.specs.Slots.{slots_of}
use Rattle.md_dirs.proofs.index.names.Names.rows.Given as goal

abbrev pub invariant-loop-shown : goal.invariant-loop-shown
invariant-loop-shown l = l.shown.items ≡ take (length l.shown.items) (map (name_row (files_of (slots_of l.slots))) (finmap.entries l.self))

abbrev pub decreases-loop-shown : goal.decreases-loop-shown
decreases-loop-shown l = length (map (name_row (files_of (slots_of l.slots))) (finmap.entries l.self)) - length l.shown.items
