use Rattle.std.proofs.Common.{◌∙◌, ◌||◌, sym}
use Rattle.md_text.proofs.Printing.{marked_by_feed, marked_else}
use Rattle.md_text.proofs.escapes.has_mark.Goals as goal

pub returns-then-contains : goal.returns-then-contains
returns-then-contains c = sym (marked_by_feed c.args.bytes.now (sym c.contains.ensures.value ∙ c.if-contains.true))

pub returns : goal.returns
returns c =
    (λ i. c.contains-2.ensures.value i || c.contains-3.ensures.value i)
    ∙ marked_else c.args.bytes.now (sym c.contains.ensures.value ∙ c.if-contains.false)
