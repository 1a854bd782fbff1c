use Rattle.std.proofs.Common.{◌≡◌, ◌<◌, ◌≤◌, ◌∙◌, Some, length, slice_get, refl, sym, ap, arith}
use Rattle.std.proofs.lemmas.Option.{slice_get-get_or}
use Rattle.md_core.proofs.Worlds.Loading.Lying.{lying-none, lying-row, lying-all}
use Rattle.md_core.proofs.Worlds.Quick.{AreUntaken, free-more, free-moved, free-all}
use Rattle.md_core.proofs.world.looking.quick.are_free.Goals as goal

pub loop-row-init : goal.loop-row-init
loop-row-init g c =
    let s = (g.D.Dirs.device c.args.dirs.now).state in
    lying-none s c.args.folder c.args.place c.in-Ok.rows.items (AreUntaken s c.args.folder c.args.place c.args.other) c.in-Ok.ensures refl

pub loop-row-preserved : goal.loop-row-preserved
loop-row-preserved g c =
    let s = (g.D.Dirs.device c.args.dirs.now).state in
    let rows = c.in-Ok.rows.items in
    let at = c.loop-row.row in
    let row = c.index.result.now in
    let Untaken = AreUntaken s c.args.folder c.args.place c.args.other in
    let within : at < length rows = omega (arith, c.loop-row-test.true, c.len-row-end.ensures, c.in-Ok.rows.ok.0) in
    let is : slice_get rows at ≡ Some row = slice_get-get_or rows at row within ∙ ap Some (sym c.index.ensures) in
    lying-row s c.args.folder c.args.place rows Untaken at c.loop-row.invariant Untaken row is
    (free-more s c.args.folder c.args.place c.args.other row (c.is_free.ensures c.if-not-is_free.false))

pub returns : goal.returns
returns g c = λ _.
    let s = (g.D.Dirs.device c.args.dirs.now).state in
    let rows = c.in-Ok.rows.items in
    let end : length rows ≤ c.loop-row.row =
    omega (arith, c.loop-row-test.false, c.loop-row.auto.row-end, c.len-row-end.ensures, c.in-Ok.rows.ok.0) in
    free-all s c.args.folder c.args.place c.args.other
    (lying-all s c.args.folder c.args.place rows (AreUntaken s c.args.folder c.args.place c.args.other) c.loop-row.row c.loop-row.invariant end
    (free-moved s c.args.folder c.args.place c.args.other))
