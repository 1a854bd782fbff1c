use Rattle.std.proofs.Common.{Some, ap, cond, ◌∙◌}
use Rattle.indexmap.specs.IndexMap.{get}
use Rattle.md_kept.specs.Tables.{value_at, held, is_key}
use Rattle.md_kept.proofs.Keys.{held-if}
use Rattle.md_kept.proofs.table.Table.put.Goals as goal

pub returns : goal.returns
unfolding value_at
returns g c = λ m q. ap held (c.in_ok-insert.ensures.updates.0 (m, q))
    ∙ held-if (is_key (c.args.number, c.in_ok-copied.field-0) (m, q)) (Some c.args.value) (get is_key c.args.self.now.map (m, q))
    ∙ ap (λ name. cond (is_key (c.args.number, name) (m, q)) (Some c.args.value) (value_at c.args.self.now m q)) c.in_ok-copied.ensures.ok
