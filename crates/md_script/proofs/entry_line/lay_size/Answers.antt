use Rattle.std.proofs.Common.{◌+◌, ◌++◌, ◌∷◌, [], List, ℕ, take, sym, ap, ◌∙◌}
use Rattle.std.proofs.lemmas.Fmt.{decimal_digit}
use Rattle.std.proofs.lemmas.List.{append_assoc}
use Rattle.md_script.specs.Texts.{line_end}
use Rattle.md_script.proofs.entry_line.lay_size.Goals as goal

pub returns-then-size-lt10-clause-front : goal.returns-then-size-lt10-clause-front
returns-then-size-lt10-clause-front c =
    let before = take c.args.at c.args.buffer.now in
    c.lay.ensures.front ∙ sym (append_assoc before ((48 + c.args.size) ∷ []) line_end)
    ∙ ap (λ (digits : List ℕ). (before ++ digits) ++ line_end) (sym (decimal_digit c.args.size c.if-size-lt10.true))
