use Rattle.std.proofs.Common.{[], ◌∷◌, ◌≡◌, ◌≤◌, ◌∙◌, IsPermutation, Some, refl, sym, ap, subst, length, slice_get, arith}
use Rattle.std.proofs.lemmas.List.{take_all}
use Rattle.std.proofs.lemmas.List.Sorted.{IsPermutation-refl}
use Rattle.md_dirs.specs.Rows.{rows_of}
use Rattle.md_dirs.proofs.Lent.{one-next, past, gathered}
use Rattle.md_dirs.proofs.calls.Dirs.rows_unordered.Goals as goal

pub loop-row-preserved : goal.loop-row-preserved
loop-row-preserved g c =
    let all = rows_of (g.Self.Dirs.device c.args.self.now).state c.args.folder c.args.place in
    let rows = c.loop-row.rows.items in
    let row = c.in-Some.row in
    let here : c.len.result ≡ length rows = omega (arith, c.len.ensures, c.loop-row.rows.ok.0) in
    let is : slice_get all (length rows) ≡ Some row = ap (slice_get all) (sym here) ∙ sym c.in-Some.ensures.row in
    gathered all rows (row ∷ []) (one-next all (row ∷ []) (length rows) row is refl) _ c.loop-row.invariant c.in_ok-push.ensures.items

pub returns : goal.returns
returns g c =
    let all = rows_of (g.Self.Dirs.device c.args.self.now).state c.args.folder c.args.place in
    let rows = c.loop-row.rows.items in
    let here : c.len.result ≡ length rows = omega (arith, c.len.ensures, c.loop-row.rows.ok.0) in
    let end : length all ≤ length rows = past all (length rows) (ap (slice_get all) (sym here) ∙ sym c.in_default.ensures.row) in
    subst (IsPermutation all) (sym (c.loop-row.invariant ∙ take_all (length rows) all end)) (IsPermutation-refl all)
