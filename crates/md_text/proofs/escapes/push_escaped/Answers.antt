use Rattle.std.proofs.Common.{◌++◌, ◌∙◌, ap, sym}
use Rattle.md_text.proofs.Printing.{left_over, unmarked}
use Rattle.md_text.proofs.escapes.push_escaped.Goals as goal

pub returns-clause-text : goal.returns-clause-text
returns-clause-text c =
    let bytes = c.args.bytes.now in
    left_over c.extend_from_slice.result c.extend_from_slice.new.self.items c.args.out.now.items bytes _ c.extend_from_slice.ensures.items
    (ap (λ t. c.args.out.now.items ++ t) (sym (unmarked bytes (sym c.has_mark.ensures ∙ c.if-has_mark.false))))
