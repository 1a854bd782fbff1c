use Rattle.std.proofs.Common.{◌≡◌, ◌<◌, ◌≤◌, ◌∙◌, Some, length, max, slice_get, sym, ap, arith}
use Rattle.std.proofs.lemmas.Option.{slice_get-get_or}
use Rattle.md_core.specs.Quick.{IsQuickLook}
use Rattle.md_core.proofs.Worlds.Loading.Lying.{behind-none, behind-row, behind-all}
use Rattle.md_core.proofs.Worlds.Quick.{quick-more, quick-moved}
use Rattle.md_core.proofs.world.looking.quick.clock_in.Goals as goal

pub loop-at-init : goal.loop-at-init
loop-at-init g c =
    let s = (g.D.Dirs.device c.args.dirs.now).state in
    behind-none s c.args.folder c.args.place c.in-Ok.rows.items (λ es. IsQuickLook s es c.args.before) c.in-Ok.ensures c.requires

pub loop-at-preserved : goal.loop-at-preserved
loop-at-preserved g c =
    let s = (g.D.Dirs.device c.args.dirs.now).state in
    let rows = c.in-Ok.rows.items in
    let at = c.loop-at.at in
    let row = c.index-row.result.now in
    let clock = c.loop-at.clock in
    let within : at < length rows = omega (arith, c.loop-at-test.true, c.len-at-end.ensures, c.in-Ok.rows.ok.0) in
    let is : slice_get rows at ≡ Some row = slice_get-get_or rows at row within ∙ ap Some (sym c.index-row.ensures) in
    rw c.max-clock.ensures
    (rw c.stamp.ensures
    (behind-row s c.args.folder c.args.place rows (λ es. IsQuickLook s es clock) at c.loop-at.invariant (λ es. IsQuickLook s es (max clock row.stamp)) row is
    (quick-more s c.args.folder c.args.place row clock (c.is_good.ensures c.if-not-is_good.false))))

pub returns : goal.returns
returns g c =
    let s = (g.D.Dirs.device c.args.dirs.now).state in
    let rows = c.in-Ok.rows.items in
    let end : length rows ≤ c.loop-at.at =
    omega (arith, c.loop-at-test.false, c.loop-at.auto.at-end, c.len-at-end.ensures, c.in-Ok.rows.ok.0) in
    behind-all s c.args.folder c.args.place rows (λ es. IsQuickLook s es c.loop-at.clock) c.loop-at.at c.loop-at.invariant end
    (quick-moved s c.loop-at.clock)
