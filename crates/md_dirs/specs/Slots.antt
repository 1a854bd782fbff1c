-- Files by their numbers in blocks, and the list that they are.
use Rattle.std.specs.Prelude.{◌<◌, ◌++◌, List, Option, flat_map, vec_len, vec_capacity}
use Rattle.md_dirs.specs.Places.{places}
use Rattle.md_dirs.specs.declared.files.Kept.{Kept}
use Rattle.md_dirs.specs.declared.slots.Block.{Block}
use Rattle.md_dirs.specs.declared.slots.Slots.{Slots}

-- the files of full blocks by their numbers
abbrev pub in_blocks : List Block → List (Option Kept)
in_blocks blocks = flat_map (λ b. places b.slots.items) blocks

-- the files by their numbers: those of full blocks, and then those of the last
abbrev pub slots_of : Slots → List (Option Kept)
slots_of s = in_blocks s.blocks.items ++ s.tail.slots.items

-- one more file may come without more memory
abbrev pub HasRoom : Slots → Type 0
HasRoom s = (vec_len s.tail.slots < vec_capacity s.tail.slots) × (vec_len s.blocks < vec_capacity s.blocks)
