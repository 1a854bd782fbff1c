use Rattle.std.proofs.Common.{◌∙◌, is_none, sym, ap}
use Rattle.md_dirs.proofs.Kept.{sorted-insert, names-insert, at-names}
use Rattle.md_dirs.proofs.plain.list.PathListPaths.add.Goals as goal

pub returns-in_default-clause-new : goal.returns-in_default-clause-new
returns-in_default-clause-new c =
    let at = rw c.deref.ensures.value at c.in_default.ensures.found in
    rw (← c.self.view_is) (sym (ap is_none (at-names c.self.inside.rows.items c.args.path.now c.self.invariant ∙ at.found.2)))

pub invariant_of-self-2 : goal.invariant_of-self-2
invariant_of-self-2 c =
    let gap = rw c.deref.ensures.value at c.in-Err.ensures.absent in
    rw (c.in_ok-insert.ensures.items, c.in_ok-again.ensures) (sorted-insert c.self.inside.rows.items c.args.path.now c.in-Err.at c.args.file c.self.invariant gap)

pub returns-clause-new : goal.returns-clause-new
returns-clause-new c =
    let gap = rw c.deref.ensures.value at c.in-Err.ensures.absent in
    rw (← c.self.view_is) (sym (ap is_none (at-names c.self.inside.rows.items c.args.path.now c.self.invariant ∙ gap.absent)))

pub returns-clause-ok : goal.returns-clause-ok
returns-clause-ok c =
    let gap = rw c.deref.ensures.value at c.in-Err.ensures.absent in
    rw (← c.self.view_is, c.in_ok-insert.ensures.items, c.in_ok-again.ensures) (names-insert c.self.inside.rows.items c.args.path.now c.in-Err.at c.args.file c.self.invariant gap)
