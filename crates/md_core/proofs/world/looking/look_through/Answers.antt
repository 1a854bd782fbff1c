use Rattle.std.proofs.Common.{◌≡◌, ◌<◌, ◌≤◌, ◌∙◌, Some, length, slice_get, sym, ap, arith}
use Rattle.std.proofs.lemmas.Option.{slice_get-get_or}
use Rattle.md_core.proofs.Worlds.Loading.Unordered.{through-none, through-row, through-all}
use Rattle.md_core.proofs.world.looking.look_through.Goals as goal

pub loop-row-init : goal.loop-row-init
loop-row-init g c =
    let s = (g.D.Dirs.device c.args.dirs.now).state in
    through-none s c.args.folder c.args.place c.in_ok-rows.rows.items c.args.seen.now c.in_ok-rows.ensures c.requires

pub loop-row-preserved : goal.loop-row-preserved
loop-row-preserved g c =
    let s = (g.D.Dirs.device c.args.dirs.now).state in
    let rows = c.in_ok-rows.rows.items in
    let at = c.loop-row.row in
    let row = c.index.result.now in
    let within : at < length rows = omega (arith, c.loop-row-test.true, c.len-row-end.ensures, c.in_ok-rows.rows.ok.0) in
    let is : slice_get rows at ≡ Some row = slice_get-get_or rows at row within ∙ ap Some (sym c.index.ensures) in
    through-row s c.args.folder c.args.place rows at c.loop-row.seen c.loop-row.invariant row is c.add.new.self
    c.in_ok-add.ensures.fault c.in_ok-add.ensures.messages c.in_ok-add.ensures.tmp c.in_ok-add.ensures.clock

pub returns : goal.returns
returns g c =
    let s = (g.D.Dirs.device c.args.dirs.now).state in
    let rows = c.in_ok-rows.rows.items in
    let end : length rows ≤ c.loop-row.row =
    omega (arith, c.loop-row-test.false, c.loop-row.auto.row-end, c.len-row-end.ensures, c.in_ok-rows.rows.ok.0) in
    through-all s c.args.folder c.args.place rows c.loop-row.row c.loop-row.seen c.loop-row.invariant end
