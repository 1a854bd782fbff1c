use Rattle.std.proofs.Common.{◌≡◌, ◌∙◌, sym, ap, Some, [], ◌∷◌, ◌++◌, length, arith, append-nil, append_assoc}
use Rattle.md_dirs.specs.Slots.{in_blocks}
use Rattle.md_dirs.proofs.Slotted.{blocks-more}
use Rattle.md_dirs.proofs.slots.Slots.push.Goals as goal

pub returns-then-len-eq-BLOCK : goal.returns-then-len-eq-BLOCK
returns-then-len-eq-BLOCK c =
    let s = c.args.self.now in
    let t = c.push.new.self in
    let b = c.replace-full.result in
    let held : b.slots.items ≡ t.slots.items = ap (λ v. v.slots.items) c.replace-full.ensures.value in
    let long : length t.slots.items ≡ 64 = omega (arith, c.if-len-eq-BLOCK.true, c.len.ensures, t.slots.ok.0) in
    (λ i. in_blocks (c.push_reserved.ensures.items i) ++ (ap (λ v. v.slots.items) c.replace-full.ensures.after ∙ c.new.ensures) i) ∙
    append-nil _ ∙ blocks-more s.blocks.items b (ap length held ∙ long) ∙
    ap (λ xs. in_blocks s.blocks.items ++ xs) (held ∙ c.push.ensures) ∙
    sym (append_assoc (in_blocks s.blocks.items) s.tail.slots.items (Some c.args.kept ∷ []))
