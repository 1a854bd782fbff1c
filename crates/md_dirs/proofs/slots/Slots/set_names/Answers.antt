use Rattle.std.proofs.Common.{ap, refl, arith}
use Rattle.md_dirs.specs.Files.{with_names}
use Rattle.md_dirs.specs.Places.{places}
use Rattle.md_dirs.proofs.Slotted.{changed-block, changed-tail}
use Rattle.md_dirs.proofs.slots.Slots.set_names.Goals as goal

pub returns-then-block-len : goal.returns-then-block-len
returns-then-block-len c =
    let s = c.args.self.now in
    changed-block s.blocks.items s.tail.slots.items c.args.number (with_names c.args.names) refl c.index_mut.result.now c.set_names.new.self
    (omega (arith, c.if-block-len.true, c.len.ensures, s.blocks.ok.0)) c.index_mut.ensures.value (ap places c.set_names.ensures)

pub returns-else-block-len : goal.returns-else-block-len
returns-else-block-len c =
    let s = c.args.self.now in
    changed-tail s.blocks.items s.tail.slots.items c.args.number c.requires s.short
    (omega (arith, c.if-block-len.false, c.len.ensures, s.blocks.ok.0)) (with_names c.args.names) c.set_names-else-block-len.new.self.slots.items
    c.set_names-else-block-len.ensures
