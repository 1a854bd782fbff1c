use Rattle.std.proofs.Common.{◌/◌, ◌++◌, ap, refl, arith}
use Rattle.std.proofs.lemmas.Result.{on_ok_weaker, on_err_weaker}
use Rattle.md_dirs.specs.Files.{grown_slot}
use Rattle.md_dirs.specs.Places.{places}
use Rattle.md_dirs.proofs.Slotted.{changed-block, changed-tail, kept-block}
use Rattle.md_dirs.proofs.slots.Slots.fill.Goals as goal

pub returns-then-block-len-clause-ok : goal.returns-then-block-len-clause-ok
returns-then-block-len-clause-ok c =
    let s = c.args.self.now in
    on_ok_weaker c.fill.result
    (λ grown. changed-block s.blocks.items s.tail.slots.items c.args.number (grown_slot c.args.body.now c.args.now) refl c.index_mut.result.now
    c.fill.new.self (omega (arith, c.if-block-len.true, c.len.ensures, s.blocks.ok.0)) c.index_mut.ensures.value (ap places grown))
    c.fill.ensures.ok

pub returns-then-block-len-clause-err : goal.returns-then-block-len-clause-err
returns-then-block-len-clause-err c =
    let s = c.args.self.now in
    on_err_weaker c.fill.result
    (λ same. ap (λ xs. xs ++ s.tail.slots.items)
    (kept-block s.blocks.items (c.args.number / 64) c.index_mut.result.now c.fill.new.self c.index_mut.ensures.value same))
    c.fill.ensures.err

pub returns-else-block-len-clause-ok : goal.returns-else-block-len-clause-ok
returns-else-block-len-clause-ok c =
    let s = c.args.self.now in
    on_ok_weaker c.fill-else-block-len.result
    (λ grown. changed-tail s.blocks.items s.tail.slots.items c.args.number c.requires s.short
    (omega (arith, c.if-block-len.false, c.len.ensures, s.blocks.ok.0)) (grown_slot c.args.body.now c.args.now)
    c.fill-else-block-len.new.self.slots.items grown)
    c.fill-else-block-len.ensures.ok
