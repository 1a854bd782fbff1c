use Rattle.std.proofs.Common.{◌++◌, Some, drop, ap, ◌∙◌, arith}
use Rattle.std.proofs.lemmas.Fmt.{decimal_digit}
use Rattle.std.proofs.lemmas.List.{take_rest}
use Rattle.md_script.specs.Texts.{answer_line, answer_text}
use Rattle.std.specs.Prelude.{codes}
use Rattle.md_trace.proofs.Grown.{also}
use Rattle.md_trace.proofs.text.Log.push_comment.Goals as goal

pub returns-in-Ok : goal.returns-in-Ok
returns-in-Ok c =
    let a = c.args.answer in
    let line = c.deref.ensures.value ∙ c.in-Ok.ensures.text ∙ ap (λ xs. xs ++ answer_line 0 (Some a)) c.new-line.ensures.items in
    let shown = take_rest c.deref.result.now 1 ∙ ap (drop 1) line
    ∙ ap (λ zero. drop 1 (zero ++ codes " answer " ++ answer_text a ++ codes "\n")) (decimal_digit 0 (omega arith)) in
    also c.push.ensures (rw shown at c.push-in-Ok.ensures)
