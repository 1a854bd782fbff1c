use Rattle.std.proofs.Common.{◌∙◌, arith}
use Rattle.md_dirs.proofs.Slotted.{slot-block, slot-tail}
use Rattle.md_dirs.proofs.slots.Slots.get.Goals as goal

pub returns-then-block-len : goal.returns-then-block-len
returns-then-block-len c =
    let s = c.args.self.now in
    c.get.ensures ∙
    slot-block s.blocks.items s.tail.slots.items c.args.number c.index.result.now
    (omega (arith, c.if-block-len.true, c.len.ensures, s.blocks.ok.0)) c.index.ensures

pub returns-else-block-len : goal.returns-else-block-len
returns-else-block-len c =
    let s = c.args.self.now in
    c.get-else-block-len.ensures ∙
    slot-tail s.blocks.items s.tail.slots.items c.args.number c.requires s.short
    (omega (arith, c.if-block-len.false, c.len.ensures, s.blocks.ok.0))
