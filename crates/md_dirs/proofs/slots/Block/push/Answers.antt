use Rattle.std.proofs.Common.{◌+◌, ◌∙◌, sym, ap, arith}
use Rattle.md_dirs.specs.Places.{there}
use Rattle.md_dirs.proofs.Slotted.{there-most, there-more}
use Rattle.md_dirs.proofs.slots.Block.push.Goals as goal

pub overflow_add-self : goal.overflow_add-self
overflow_add-self c =
    let b = c.args.self.now in
    let most = there-most b.slots.items in
    omega (arith, most, b.counted, b.slots.ok.0, b.slots.ok.1, b.slots.small)

pub invariant_of-self : goal.invariant_of-self
invariant_of-self c =
    let b = c.args.self.now in
    record { counted = ap (λ n. n + 1) b.counted ∙ sym (there-more b.slots.items c.args.kept) ∙ ap there (sym c.push_reserved.ensures.items) }
