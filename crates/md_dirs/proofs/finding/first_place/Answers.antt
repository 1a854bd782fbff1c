use Rattle.std.proofs.Common.{◌<◌, ◌∙◌, sym, ap, length, arith}
use Rattle.md_dirs.specs.Rows.{is_named}
use Rattle.lists.proofs.Booleans.{holds}
use Rattle.md_dirs.proofs.Zones.{name-point, name-missing, first-is-info}
use Rattle.md_dirs.proofs.finding.first_place.Goals.{else-at-count-via-then-at-count+else-is_named, else-at-count-via-else-at-count}
use Rattle.md_dirs.proofs.finding.first_place.Goals as goal

pub returns-then-is_named : goal.returns-then-is_named
returns-then-is_named g c =
    let rows = g.N.InOrder.rows c.args.names.now in
    let u = c.args.unique.now in
    let within : c.edge_place-at.result < length rows = omega (arith, c.count.ensures) in
    name-point u rows c.edge_place-at.result within c.edge_place-at.ensures.before
    (ap (is_named u) (sym c.name.ensures) ∙ sym c.is_named.ensures ∙ c.if-is_named.true)

pub returns : goal.returns
returns g c =
    let rows = g.N.InOrder.rows c.args.names.now in
    let u = c.args.unique.now in
    let sorted = holds _ c.requires in
    let at = c.edge_place-at.ensures in
    first-is-info u rows c.edge_place.result sorted
    (name-missing u rows c.edge_place-at.result sorted at.before at.after
    (λ within. elim c.else-at-count.branch [
      | else-at-count-via-then-at-count+else-is_named w ↦ ap (is_named u) (sym w.name.ensures) ∙ sym w.is_named.ensures ∙ w.if-is_named.false
      | else-at-count-via-else-at-count w ↦ absurd (omega (arith, w.if-at-count.false, c.count.ensures))
    ]))
    c.edge_place.ensures
