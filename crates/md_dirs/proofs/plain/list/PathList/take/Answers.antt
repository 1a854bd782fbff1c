use Rattle.std.proofs.Common.{◌∙◌, sym}
use Rattle.std.specs.FinMap.{from_sorted}
use Rattle.md_dirs.proofs.Kept.{at-names, sorted-remove, names-remove}
use Rattle.md_dirs.proofs.Steps.{row-file}
use Rattle.md_dirs.proofs.Hashed.{remove-absent}
use Rattle.md_dirs.proofs.plain.list.PathList.take.Goals as goal

pub returns-in_default-clause-file : goal.returns-in_default-clause-file
returns-in_default-clause-file c =
    let gap = rw c.deref.ensures.value at c.in_default.ensures.absent in
    rw (← c.self.view_is) (sym (at-names c.self.inside.rows.items c.args.path.now c.self.invariant ∙ gap.absent))

pub returns-in_default-clause-gone : goal.returns-in_default-clause-gone
returns-in_default-clause-gone c =
    let rows = c.self.inside.rows.items in
    let gap = rw c.deref.ensures.value at c.in_default.ensures.absent in
    rw (← c.self.view_is) (sym (remove-absent (from_sorted rows) c.args.path.now (at-names rows c.args.path.now c.self.invariant ∙ gap.absent)))

pub invariant_of-self : goal.invariant_of-self
invariant_of-self c =
    let at = rw c.deref.ensures.value at c.in-Ok.ensures.found in
    rw c.remove.ensures.items (sorted-remove c.self.inside.rows.items c.args.path.now c.in-Ok.at c.self.invariant at)

pub returns-clause-file : goal.returns-clause-file
returns-clause-file c =
    let rows = c.self.inside.rows.items in
    let at = rw c.deref.ensures.value at c.in-Ok.ensures.found in
    rw (← c.self.view_is)
    (sym (at-names rows c.args.path.now c.self.invariant ∙ row-file rows c.args.path.now c.in-Ok.at c.remove.result at c.remove.ensures.value))

pub returns-clause-gone : goal.returns-clause-gone
returns-clause-gone c =
    let at = rw c.deref.ensures.value at c.in-Ok.ensures.found in
    rw (← c.self.view_is, c.remove.ensures.items) (names-remove c.self.inside.rows.items c.args.path.now c.in-Ok.at c.self.invariant at)
