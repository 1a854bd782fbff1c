use Rattle.std.proofs.Common.{◌≡◌, map, take}
use Rattle.md_dirs.specs.Index.{named_row}
use Rattle.md_dirs.specs.Files.{files_of, name_row}
use Rattle.md_dirs.specs.Slots.{slots_of}
use Rattle.md_dirs.proofs.plain.list.copied_rows.Given as goal

abbrev pub invariant-loop-path : goal.invariant-loop-path
invariant-loop-path l = l.shown.items ≡ map (name_row (files_of (slots_of l.slots))) (map named_row (take l.path-index l.rows))
