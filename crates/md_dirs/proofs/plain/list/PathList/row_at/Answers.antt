use Rattle.std.proofs.Common.{◌∙◌, sym, ap, refl, None, Some, slice_get, ltb-true, ltb-false}
use Rattle.std.proofs.lemmas.Option.{slice_get_read}
use Rattle.std.proofs.lemmas.Option.{slice_get_past}
use Rattle.lists.proofs.Booleans.{holds}
use Rattle.md_dirs.proofs.Sliced.{row-listed}
use Rattle.md_dirs.proofs.plain.list.PathList.row_at.Goals as goal

pub returns-in_err-path-clause-row : goal.returns-in_err-path-clause-row
returns-in_err-path-clause-row c =
    let rows = c.self.inside.rows.items in
    let part = rw c.deref.ensures.value at c.directory.ensures in
    rw (c.from_residual.ensures, ← c.self.view_is)
    (row-listed rows c.args.folder c.args.place c.args.at None (holds _ c.self.invariant) (ap (λ es. slice_get es c.args.at) (sym part) ∙
    slice_get_past c.directory.result.now c.args.at (ltb-false _ _ (sym c.in_err-path.ensures.lookup.0))))

pub returns-clause-row : goal.returns-clause-row
returns-clause-row c =
    let rows = c.self.inside.rows.items in
    let part = rw c.deref.ensures.value at c.directory.ensures in
    rw (c.as_slice.ensures, ← c.self.view_is)
    (row-listed rows c.args.folder c.args.place c.args.at (Some c.in_ok-path.field-0.now) (holds _ c.self.invariant)
    (ap (λ es. slice_get es c.args.at) (sym part) ∙
    slice_get_read c.directory.result.now _ c.args.at c.in_ok-path.field-0.now refl
    (ltb-true _ _ (sym c.in_ok-path.ensures.lookup.0)) c.in_ok-path.ensures.lookup.1))
