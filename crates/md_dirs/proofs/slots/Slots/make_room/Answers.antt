use Rattle.std.proofs.Common.{arith, length-append}
use Rattle.md_dirs.specs.Slots.{in_blocks}
use Rattle.md_dirs.proofs.Slotted.{length-blocks}
use Rattle.md_dirs.proofs.slots.Slots.make_room.Goals as goal

pub returns-clause-number : goal.returns-clause-number
returns-clause-number c =
    let s = c.args.self.now in
    let blocks = length-blocks s.blocks.items in
    let sum = length-append (in_blocks s.blocks.items) s.tail.slots.items in
    grind (arith, blocks, sum)
