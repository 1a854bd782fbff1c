use Rattle.std.proofs.Common.{◌≡◌, ◌<◌, ◌≤◌, ◌∙◌, Some, length, slice_get, sym, ap, arith}
use Rattle.std.proofs.lemmas.Option.{slice_get-get_or}
use Rattle.md_core.specs.Gathering.{AreOf}
use Rattle.md_core.proofs.Worlds.Gathered.{gathered-more, gathered-moved}
use Rattle.md_core.proofs.Worlds.Loading.Lying.{behind-none, behind-row, behind-all}
use Rattle.md_core.proofs.world.looking.names.use_directory.Goals as goal

pub loop-row-init : goal.loop-row-init
loop-row-init g c =
    let s = (g.D.Dirs.device c.args.dirs.now).state in
    behind-none s c.args.folder c.args.place c.in_ok-rows.rows.items (λ es. AreOf es c.args.used.now) c.in_ok-rows.ensures c.requires

pub loop-row-preserved : goal.loop-row-preserved
loop-row-preserved g c =
    let s = (g.D.Dirs.device c.args.dirs.now).state in
    let rows = c.in_ok-rows.rows.items in
    let at = c.loop-row.row in
    let row = c.index.result.now in
    let old = c.loop-row.used in
    let new = c.use_part.new.used in
    let within : at < length rows = omega (arith, c.loop-row-test.true, c.len-row-end.ensures, c.in_ok-rows.rows.ok.0) in
    let is : slice_get rows at ≡ Some row = slice_get-get_or rows at row within ∙ ap Some (sym c.index.ensures) in
    behind-row s c.args.folder c.args.place rows (λ es. AreOf es old) at c.loop-row.invariant (λ es. AreOf es new) row is
    (gathered-more s c.args.folder c.args.place row old new c.in_ok-use_part.ensures)

pub returns : goal.returns
returns g c =
    let s = (g.D.Dirs.device c.args.dirs.now).state in
    let rows = c.in_ok-rows.rows.items in
    let end : length rows ≤ c.loop-row.row =
    omega (arith, c.loop-row-test.false, c.loop-row.auto.row-end, c.len-row-end.ensures, c.in_ok-rows.rows.ok.0) in
    behind-all s c.args.folder c.args.place rows (λ es. AreOf es c.loop-row.used) c.loop-row.row c.loop-row.invariant end
    (gathered-moved c.loop-row.used)
