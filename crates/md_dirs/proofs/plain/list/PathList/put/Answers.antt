use Rattle.std.proofs.Common.{ℕ, ◌≡◌, ◌∙◌, List, sym, ap, subst, slice_set}
use Rattle.std.specs.FinMap.{from_sorted}
use Rattle.std.specs.FinMap.Entries.{put}
use Rattle.md_dirs.specs.Path.{path_cmp}
use Rattle.md_dirs.specs.Plain.{IsAt}
use Rattle.md_dirs.specs.declared.paths.Path.{Path}
use Rattle.md_dirs.proofs.Kept.{Sorted, sorted-put, sorted-insert, names-put, names-insert}
use Rattle.md_dirs.proofs.Steps.{row-path}
use Rattle.md_dirs.proofs.plain.list.PathList.put.Goals as goal

-- the row of a path with another file
put-is : (rows : List (Path × ℕ)) (p q : Path) (i n : ℕ) → IsAt path_cmp rows p i → q ≡ p → put path_cmp p n rows ≡ slice_set rows i (q, n)
put-is rows p q i n at same = at.replaced n ∙ ap (λ x. slice_set rows i (x, n)) (sym same)

pub invariant_of-self : goal.invariant_of-self
invariant_of-self c =
    let rows = c.self.inside.rows.items in
    let p = c.args.path.now in
    let at = rw c.deref.ensures.value at c.in-Ok.ensures.found in
    let path = row-path rows p c.in-Ok.at c.index_mut.result.now at c.index_mut.ensures.value in
    subst Sorted (put-is rows p c.index_mut.result.now.0 c.in-Ok.at c.args.file at path) (sorted-put rows p c.args.file c.self.invariant)

pub invariant_of-self-in_ok-insert-in-Err : goal.invariant_of-self-in_ok-insert-in-Err
invariant_of-self-in_ok-insert-in-Err c =
    let gap = rw c.deref.ensures.value at c.in-Err.ensures.absent in
    rw (c.in_ok-insert-in-Err.ensures.items, c.in_ok-again-in-Err.ensures) (sorted-insert c.self.inside.rows.items c.args.path.now c.in-Err.at c.args.file c.self.invariant gap)

pub returns-in-Ok-clause-ok : goal.returns-in-Ok-clause-ok
returns-in-Ok-clause-ok c =
    let rows = c.self.inside.rows.items in
    let p = c.args.path.now in
    let at = rw c.deref.ensures.value at c.in-Ok.ensures.found in
    let path = row-path rows p c.in-Ok.at c.index_mut.result.now at c.index_mut.ensures.value in
    rw (← c.self.view_is) (ap (from_sorted {R = path_cmp}) (sym (put-is rows p c.index_mut.result.now.0 c.in-Ok.at c.args.file at path)) ∙
    names-put rows p c.args.file c.self.invariant)

pub returns-in_ok-insert-in-Err-clause-ok : goal.returns-in_ok-insert-in-Err-clause-ok
returns-in_ok-insert-in-Err-clause-ok c =
    let gap = rw c.deref.ensures.value at c.in-Err.ensures.absent in
    rw (← c.self.view_is, c.in_ok-insert-in-Err.ensures.items, c.in_ok-again-in-Err.ensures) (names-insert c.self.inside.rows.items c.args.path.now c.in-Err.at c.args.file c.self.invariant gap)
