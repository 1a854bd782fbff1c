use Rattle.std.proofs.Common.{◌∙◌, sym, ap, take, length}
use Rattle.md_dirs.proofs.Uniques.{take-unique}
use Rattle.md_dirs.proofs.rows.RowRef.unique.Goals as goal

pub slice_bounds-result-end : goal.slice_bounds-result-end
slice_bounds-result-end c =
    let name = c.self.inside.name.now in
    c.self.invariant ∙ sym (ap length ((λ i. take (c.self.invariant i) name) ∙ take-unique name))

pub returns : goal.returns
returns c =
    let name = c.self.inside.name.now in
    rw (← c.self.view_is) ((λ i. take (c.self.invariant i) name) ∙ take-unique name)
