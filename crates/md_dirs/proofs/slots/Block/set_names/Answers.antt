use Rattle.std.proofs.Common.{◌∙◌, is_some, sym, ap, slice_set, arith}
use Rattle.md_dirs.specs.Files.{with_names}
use Rattle.md_dirs.proofs.Slotted.{slot-here, there-still, names-still}
use Rattle.md_dirs.proofs.slots.Block.set_names.Goals as goal

pub invariant_of-self : goal.invariant_of-self
invariant_of-self c =
    let b = c.args.self.now in
    let here = slot-here b.slots.items c.args.at c.index_mut.result.now (omega (arith, c.if-at-len.true, c.len.ensures, b.slots.ok.0)) c.index_mut.ensures.value in
    record {
      counted = b.counted ∙ sym (there-still b.slots.items c.args.at c.count_slot.new.slot
          (ap is_some c.count_slot.ensures ∙ names-still c.args.names c.index_mut.result.now ∙ ap is_some (sym here)));
    }

pub returns-then-at-len : goal.returns-then-at-len
returns-then-at-len c =
    let b = c.args.self.now in
    let here = slot-here b.slots.items c.args.at c.index_mut.result.now (omega (arith, c.if-at-len.true, c.len.ensures, b.slots.ok.0)) c.index_mut.ensures.value in
    ap (slice_set b.slots.items c.args.at) (c.count_slot.ensures ∙ ap (with_names c.args.names) (sym here))
