use Rattle.std.proofs.Common.{◌≡◌, ◌∙◌, length, arith}
use Rattle.std.proofs.lemmas.Bool.Decides.{nat_tests}
use Rattle.std.proofs.lemmas.List.{nil_from_length}
use Rattle.md_dirs.proofs.Arranged.{whole-order}
use Rattle.md_dirs.proofs.index.names.is_arranged.Goals as goal

pub returns-then-is_empty : goal.returns-then-is_empty
returns-then-is_empty c all =
    let same : length c.args.order.now ≡ c.len.result = grind (arith, nat_tests, all) in (
      nil_from_length c.args.others.now.entries (c.is_empty.ensures.0 c.if-is_empty.true),
      whole-order c.args.table.now.keys c.args.order.now c.requires (same ∙ c.len.ensures.len),
    )
