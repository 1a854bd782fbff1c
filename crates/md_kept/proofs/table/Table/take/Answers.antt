use Rattle.std.proofs.Common.{cond, ◌∙◌}
use Rattle.md_kept.specs.Tables.{value_at, is_key}
use Rattle.md_kept.proofs.Keys.{written-at}
use Rattle.md_kept.proofs.table.Table.take.Goals as goal

pub returns-clause-puts : goal.returns-clause-puts
unfolding value_at
returns-clause-puts g c = λ m q.
    written-at c.args.self.now.map c.in-Some.at (c.args.number, c.lent.result) c.in-Some.field-0-1.now c.in-Some.field-0-2.now c.take.new.self
    c.pair_mut-kept.ensures.unique c.in-Some.ensures.key c.in-Some.ensures.entry (m, q)
    ∙ (λ i. cond (is_key (c.args.number, c.lent.ensures i) (m, q)) (c.take.ensures.after i) (value_at c.args.self.now m q))
