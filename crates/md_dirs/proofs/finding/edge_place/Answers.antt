use Rattle.std.proofs.Common.{◌+◌, ◌-◌, ◌/◌, sym, ap, subst, ◌∙◌, nat_lt, arith}
use Rattle.md_dirs.specs.Find.{zone, edge_zone, IsHalved}
use Rattle.lists.proofs.Booleans.{holds}
use Rattle.md_dirs.proofs.Zones.{halved-all, halved-low, halved-high}
use Rattle.md_dirs.proofs.finding.edge_place.Goals as goal

pub loop-low-init : goal.loop-low-init
loop-low-init g c =
    let rows = g.N.InOrder.rows c.args.names.now in
    let u = c.args.unique.now in
    let edge = edge_zone c.args.edge in
    subst (IsHalved rows u edge 0) (sym c.count-high.ensures) (halved-all rows u edge)

pub loop-low-preserved-then-is_before : goal.loop-low-preserved-then-is_before
loop-low-preserved-then-is_before g c =
    let l = c.loop-low in
    let u = c.args.unique.now in
    let edge = edge_zone c.args.edge in
    halved-low (g.N.InOrder.rows c.args.names.now) u edge l.low l.high (holds _ c.requires) l.invariant (l.low + (l.high - l.low) / 2)
    (omega arith) (omega arith) (ap (λ a. nat_lt (zone u a) edge) (sym c.name.ensures) ∙ sym c.is_before.ensures ∙ c.if-is_before.true)

pub loop-low-preserved : goal.loop-low-preserved
loop-low-preserved g c =
    let l = c.loop-low in
    let u = c.args.unique.now in
    let edge = edge_zone c.args.edge in
    halved-high (g.N.InOrder.rows c.args.names.now) u edge l.low l.high (holds _ c.requires) l.invariant (l.low + (l.high - l.low) / 2)
    (omega arith) (omega arith) (ap (λ a. nat_lt (zone u a) edge) (sym c.name.ensures) ∙ sym c.is_before.ensures ∙ c.if-is_before.false)
