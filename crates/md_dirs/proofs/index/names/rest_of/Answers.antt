use Rattle.std.proofs.Common.{◌∙◌, arith}
use Rattle.std.proofs.lemmas.List.{take_rest}
use Rattle.md_dirs.proofs.Arranged.{same-rest}
use Rattle.md_dirs.proofs.index.names.rest_of.Goals as goal

pub returns : goal.returns
returns c =
    let least = c.min-from.ensures in
    take_rest c.args.order.now c.min-from.result
    ∙ same-rest c.args.order.now c.args.from c.min-from.result (λ h. omega (arith, least, h)) (λ h. omega (arith, least, h))
