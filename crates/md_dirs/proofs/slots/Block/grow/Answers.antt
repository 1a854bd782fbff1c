use Rattle.std.proofs.Common.{◌∙◌, is_some, sym, ap, slice_set, arith}
use Rattle.md_dirs.specs.Files.{grown_slot}
use Rattle.md_dirs.proofs.Slotted.{slot-here, there-still}
use Rattle.md_dirs.proofs.slots.Block.grow.Goals as goal

pub invariant_of-self : goal.invariant_of-self
invariant_of-self c =
    let b = c.args.self.now in
    let here = slot-here b.slots.items c.args.at c.index_mut.result.now (omega (arith, c.if-at-len.true, c.len.ensures, b.slots.ok.0)) c.index_mut.ensures.value in
    record { counted = b.counted ∙ sym (there-still b.slots.items c.args.at c.grow_slot.new.slot (c.grow_slot.ensures.kept ∙ ap is_some (sym here))) }

pub returns-in_ok-grow_slot-clause-ok : goal.returns-in_ok-grow_slot-clause-ok
returns-in_ok-grow_slot-clause-ok c =
    let b = c.args.self.now in
    let here = slot-here b.slots.items c.args.at c.index_mut.result.now (omega (arith, c.if-at-len.true, c.len.ensures, b.slots.ok.0)) c.index_mut.ensures.value in
    ap (slice_set b.slots.items c.args.at) (c.in_ok-grow_slot.ensures.ok ∙ ap (grown_slot c.args.bytes.now c.args.now) (sym here))
