use Rattle.std.proofs.Common.{◌≡◌, ◌+◌, Some, unwrap_or, ap, cond, ◌∙◌}
use Rattle.md_kept.specs.Tables.{value_at, count_at, held, is_key}
use Rattle.md_kept.proofs.Keys.{written-at}
use Rattle.md_kept.proofs.table.Table+usize.raise.Goals as goal

pub returns : goal.returns
unfolding value_at
returns c = λ m q.
    written-at c.args.self.now.map c.in-Some.at (c.args.number, c.lent.result) c.in-Some.field-0-1.now c.in-Some.kept.now
    (Some c.in-Some-checked_add.more) c.pair_mut-kept.ensures.unique c.in-Some.ensures.key c.in-Some.ensures.entry (m, q)
    ∙ (λ i. cond (is_key (c.args.number, c.lent.ensures i) (m, q)) (more i) (value_at c.args.self.now m q))
  where
    more : Some c.in-Some-checked_add.more ≡ Some (count_at c.args.self.now c.args.number c.args.name.now + 1)
    more = ap Some (c.in-Some-checked_add.ensures.1 ∙ ap (λ n. n + 1)
        (c.unwrap_or.ensures ∙ ap (λ o. unwrap_or (held o) 0) c.in-Some.ensures.value
        ∙ ap (λ name. count_at c.args.self.now c.args.number name) c.lent.ensures))
