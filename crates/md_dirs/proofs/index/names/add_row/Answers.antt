use Rattle.std.proofs.Common.{inr, ◌≡◌, ◌∙◌, ◌++◌, [], ◌∷◌, length}
use Rattle.md_dirs.proofs.Alike.{insert-there, insert-new}
use Rattle.md_dirs.proofs.Behind.{comes-last}
use Rattle.md_dirs.proofs.index.names.add_row.Goals as goal

pub returns-then-not-is_new-clause-there : goal.returns-then-not-is_new-clause-there
returns-then-not-is_new-clause-there c =
    let put = c.in_ok-at.ensures in
    insert-there c.args.row c.args.table.now.keys c.insert_full.new.self.keys c.in_ok-at.at c.in_ok-at.is_new put.added c.if-not-is_new.true put.keys put.index

pub returns-then-is_last-clause-ordered : goal.returns-then-is_last-clause-ordered
returns-then-is_last-clause-ordered c =
    let rows = c.args.table.now.keys in
    let order = c.args.order.now.items in
    let put = c.in_ok-at.ensures in
    let added = insert-new c.args.row rows c.insert_full.new.self.keys c.in_ok-at.at c.in_ok-at.is_new put.added c.if-not-is_new.false put.keys put.index in
    let goes = rw (c.deref.ensures.value, c.name.ensures) at (c.goes_last-is_last.ensures c.if-is_last.true) in
    let items : c.push_reserved.new.self.items ≡ order ++ length rows ∷ [] = c.push_reserved.ensures.items ∙ (λ i. c.reserve.ensures.items i ++ added.1 i ∷ []) in
    inr (rw (added.0, items) (comes-last rows order c.args.row goes))
