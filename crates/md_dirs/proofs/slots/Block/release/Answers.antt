use Rattle.std.proofs.Common.{◌∙◌, IsSome, is_some, sym, ap, subst, slice_set, arith}
use Rattle.md_dirs.specs.Files.{named_less}
use Rattle.md_dirs.specs.Places.{there}
use Rattle.md_dirs.proofs.Slotted.{slot-here, there-still, there-less}
use Rattle.md_dirs.proofs.slots.Block.release.Goals as goal

pub overflow_sub-self : goal.overflow_sub-self
overflow_sub-self c =
    let b = c.args.self.now in
    let here = slot-here b.slots.items c.args.at c.index_mut.result.now (omega (arith, c.if-at-len.false, c.len.ensures, b.slots.ok.0)) c.index_mut.ensures.value in
    let less = there-less b.slots.items c.args.at (subst IsSome (sym here) (c.release_slot.ensures.gone c.if-release_slot.true).0) in
    omega (arith, b.counted, less)

pub invariant_of-self : goal.invariant_of-self
invariant_of-self c =
    let b = c.args.self.now in
    let here = slot-here b.slots.items c.args.at c.index_mut.result.now (omega (arith, c.if-at-len.false, c.len.ensures, b.slots.ok.0)) c.index_mut.ensures.value in
    let gone = c.release_slot.ensures.gone c.if-release_slot.true in
    let less = there-less b.slots.items c.args.at (subst IsSome (sym here) gone.0) in
    let same = ap (λ x. there (slice_set b.slots.items c.args.at x)) gone.1 in
    record { counted = omega (arith, b.counted, less, same) }

pub invariant_of-self-else-release_slot : goal.invariant_of-self-else-release_slot
invariant_of-self-else-release_slot c =
    let b = c.args.self.now in
    let here = slot-here b.slots.items c.args.at c.index_mut.result.now (omega (arith, c.if-at-len.false, c.len.ensures, b.slots.ok.0)) c.index_mut.ensures.value in
    record {
      counted = b.counted ∙ sym (there-still b.slots.items c.args.at c.release_slot.new.slot
          (c.release_slot.ensures.kept c.if-release_slot.false ∙ ap is_some (sym here)));
    }

pub returns-then-release_slot : goal.returns-then-release_slot
returns-then-release_slot c =
    let b = c.args.self.now in
    let here = slot-here b.slots.items c.args.at c.index_mut.result.now (omega (arith, c.if-at-len.false, c.len.ensures, b.slots.ok.0)) c.index_mut.ensures.value in
    ap (slice_set b.slots.items c.args.at) (c.release_slot.ensures.less ∙ ap named_less (sym here))

pub returns-else-release_slot : goal.returns-else-release_slot
returns-else-release_slot c =
    let b = c.args.self.now in
    let here = slot-here b.slots.items c.args.at c.index_mut.result.now (omega (arith, c.if-at-len.false, c.len.ensures, b.slots.ok.0)) c.index_mut.ensures.value in
    ap (slice_set b.slots.items c.args.at) (c.release_slot.ensures.less ∙ ap named_less (sym here))
