use Rattle.std.proofs.Common.{◌∙◌, sym, ap}
use Rattle.md_dirs.specs.Places.{places}
use Rattle.md_dirs.proofs.Slotted.{places-gone}
use Rattle.md_dirs.proofs.slots.Block.shrink.Goals as goal

pub returns-then-self-eq0 : goal.returns-then-self-eq0
returns-then-self-eq0 c =
    let b = c.args.self.now in
    ap places c.new.ensures.items ∙ places-gone b.slots.items (sym b.counted ∙ c.if-self-eq0.true)
