use Rattle.std.proofs.Common.{List, ℕ, ◌++◌, ◌∷◌, ◌+◌, [], codes, decimal, append_assoc}
use Rattle.std.proofs.lemmas.Fmt.{decimal_digit}
use Rattle.md_script.specs.Texts.{line_end}
use Rattle.md_script.proofs.store.printing.push_appended.Goals as goal

pub returns-then-count-lt10 : goal.returns-then-count-lt10
returns-then-count-lt10 c =
    let front : List ℕ = c.args.out.now.items ++ decimal c.args.job in
    let digit : List ℕ = (48 + c.args.count) ∷ [] in
    rw (
      decimal_digit c.args.count c.if-count-lt10.true,
      append_assoc front (codes " append ") digit,
      append_assoc front (codes " append " ++ digit) (codes " ok"),
      append_assoc front ((codes " append " ++ digit) ++ codes " ok") line_end,
    ) c.push_line.ensures.text
