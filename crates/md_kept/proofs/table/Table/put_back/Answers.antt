use Rattle.std.proofs.Common.{Some, refl}
use Rattle.md_kept.specs.Tables.{value_at}
use Rattle.md_kept.proofs.Keys.{written}
use Rattle.md_kept.proofs.table.Table.put_back.Goals as goal

pub returns : goal.returns
unfolding value_at
returns g c = λ m q.
    let there = c.if-not-has_at.ensures refl in
    written c.args.self.now.map c.args.at (c.args.number, c.args.name.now) there.0 (Some c.args.value) c.pair_mut-kept.ensures.unique there.1 (m, q)
