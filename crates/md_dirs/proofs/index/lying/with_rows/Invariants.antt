use Rattle.std.proofs.Common.{◌≡◌, ◌++◌, map, take}
use Rattle.md_dirs.specs.Files.{files_of, name_row}
use Rattle.md_dirs.specs.Slots.{slots_of}
use Rattle.md_dirs.proofs.index.lying.with_rows.Given as goal

abbrev pub invariant-loop-at : goal.invariant-loop-at
invariant-loop-at l = l.lent.items
    ≡ l.initial.lent.items ++ map (name_row (files_of (slots_of l.slots))) (take l.at l.table.keys)
