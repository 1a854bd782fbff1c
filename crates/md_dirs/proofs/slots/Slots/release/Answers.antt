use Rattle.std.proofs.Common.{◌∙◌, ap, refl, arith}
use Rattle.md_dirs.specs.Files.{named_less}
use Rattle.md_dirs.specs.Places.{places}
use Rattle.md_dirs.proofs.Slotted.{changed-block, changed-tail}
use Rattle.md_dirs.proofs.slots.Slots.release.Goals as goal

pub returns-then-block-len : goal.returns-then-block-len
returns-then-block-len c =
    let s = c.args.self.now in
    changed-block s.blocks.items s.tail.slots.items c.args.number named_less refl c.index_mut-block.result.now c.shrink.new.self
    (omega (arith, c.if-block-len.true, c.len.ensures, s.blocks.ok.0)) c.index_mut-block.ensures.value
    (c.shrink.ensures ∙ ap places c.release.ensures)

pub returns-else-block-len : goal.returns-else-block-len
returns-else-block-len c =
    let s = c.args.self.now in
    changed-tail s.blocks.items s.tail.slots.items c.args.number c.requires s.short
    (omega (arith, c.if-block-len.false, c.len.ensures, s.blocks.ok.0)) named_less c.release-else-block-len.new.self.slots.items
    c.release-else-block-len.ensures
