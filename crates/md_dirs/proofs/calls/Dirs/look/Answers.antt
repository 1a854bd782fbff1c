use Rattle.std.proofs.Common.{◌≡◌, ◌+◌, ◌-◌, ◌/◌, ◌∙◌, Option, Some, None, cond, sym, ap, subst, refl, arith, nat_lt, slice_get}
use Rattle.std.specs.Option.{option_and_then}
use Rattle.md_dirs.specs.Rows.{rows_of, is_named}
use Rattle.md_dirs.specs.State.{State}
use Rattle.md_dirs.specs.Find.{zone, IsHalved}
use Rattle.md_dirs.specs.declared.rows.Row.{Row}
use Rattle.md_dirs.proofs.Zones.{halved-all, halved-edge}
use Rattle.md_dirs.proofs.Looked.{names, count-named, looked-past, looked-low, looked-high, row-at_name, row-at_info}
use Rattle.md_dirs.proofs.calls.Dirs.look.Goals.{Joined-row_at, in-Some+else-is_named, in_default}
use Rattle.md_dirs.proofs.calls.Dirs.look.Goals as goal
use Rattle.md_dirs.proofs.calls.Dirs.look.Given as given

pub loop-low-init : goal.loop-low-init
loop-low-init g c =
    let s : State = (g.Self.Dirs.device c.args.self.now).state in
    subst (IsHalved (names s c.args.folder c.args.place) c.args.unique.now 1 0) (sym (c.count-count.ensures ∙ count-named s c.args.folder c.args.place))
    (halved-all (names s c.args.folder c.args.place) c.args.unique.now 1)

pub returns-in_err-row_at : goal.returns-in_err-row_at
returns-in_err-row_at g c =
    let l = c.loop-low in
    absurd (looked-past (g.Self.Dirs.device c.args.self.now).state c.args.folder c.args.place c.args.unique.now 1 l.low l.high l.invariant
    (l.low + (l.high - l.low) / 2) (omega arith) c.in_err-row_at.ensures.row)

pub loop-low-preserved-then-is_below : goal.loop-low-preserved-then-is_below
loop-low-preserved-then-is_below g c =
    let l = c.loop-low in
    looked-low (g.Self.Dirs.device c.args.self.now).state c.args.folder c.args.place c.args.unique.now 1 l.low l.high l.invariant
    (l.low + (l.high - l.low) / 2) (omega arith) (omega arith) c.in_ok-row_at.field-0 c.in_ok-row_at.ensures.row
    (ap (λ name. nat_lt (zone c.args.unique.now name) 1) (sym c.name.ensures) ∙ sym c.is_below.ensures ∙ c.if-is_below.true)

pub loop-low-preserved : goal.loop-low-preserved
loop-low-preserved g c =
    let l = c.loop-low in
    looked-high (g.Self.Dirs.device c.args.self.now).state c.args.folder c.args.place c.args.unique.now 1 l.low l.high l.invariant
    (l.low + (l.high - l.low) / 2) (omega arith) (omega arith) c.in_ok-row_at.field-0 c.in_ok-row_at.ensures.row
    (ap (λ name. nat_lt (zone c.args.unique.now name) 1) (sym c.name.ensures) ∙ sym c.is_below.ensures ∙ c.if-is_below.false)

pub returns-then-is_named : goal.returns-then-is_named
returns-then-is_named g c =
    let s : State = (g.Self.Dirs.device c.args.self.now).state in
    let l = c.loop-low in
    row-at_name s c.args.folder c.args.place c.args.unique.now l.low c.in-Some.row
    (halved-edge (names s c.args.folder c.args.place) c.args.unique.now 1 l.low l.high l.invariant (omega (arith, c.loop-low-test.false)))
    c.in-Some.ensures.row (ap (is_named c.args.unique.now) (sym c.name-in-Some.ensures) ∙ sym c.is_named.ensures ∙ c.if-is_named.true)

pub loop-from-init : goal.loop-from-init
loop-from-init g c =
    let s : State = (g.Self.Dirs.device c.args.self.now).state in
    subst (IsHalved (names s c.args.folder c.args.place) c.args.unique.now 3 0) (sym (c.count-count.ensures ∙ count-named s c.args.folder c.args.place))
    (halved-all (names s c.args.folder c.args.place) c.args.unique.now 3)

pub returns-in_err-row_at-2 : goal.returns-in_err-row_at-2
returns-in_err-row_at-2 g c =
    let l = c.loop-from in
    absurd (looked-past (g.Self.Dirs.device c.args.self.now).state c.args.folder c.args.place c.args.unique.now 3 l.from l.end l.invariant
    (l.from + (l.end - l.from) / 2) (omega arith) c.in_err-row_at-2.ensures.row)

pub loop-from-preserved-then-is_below_info : goal.loop-from-preserved-then-is_below_info
loop-from-preserved-then-is_below_info g c =
    let l = c.loop-from in
    looked-low (g.Self.Dirs.device c.args.self.now).state c.args.folder c.args.place c.args.unique.now 3 l.from l.end l.invariant
    (l.from + (l.end - l.from) / 2) (omega arith) (omega arith) c.in_ok-row_at-2.field-0 c.in_ok-row_at-2.ensures.row
    (ap (λ name. nat_lt (zone c.args.unique.now name) 3) (sym c.name-in-loop-from.ensures) ∙ sym c.is_below_info.ensures ∙ c.if-is_below_info.true)

pub loop-from-preserved : goal.loop-from-preserved
loop-from-preserved g c =
    let l = c.loop-from in
    looked-high (g.Self.Dirs.device c.args.self.now).state c.args.folder c.args.place c.args.unique.now 3 l.from l.end l.invariant
    (l.from + (l.end - l.from) / 2) (omega arith) (omega arith) c.in_ok-row_at-2.field-0 c.in_ok-row_at-2.ensures.row
    (ap (λ name. nat_lt (zone c.args.unique.now name) 3) (sym c.name-in-loop-from.ensures) ∙ sym c.is_below_info.ensures ∙ c.if-is_below_info.false)

-- no row is at the unique name, or one of another name
missed : (g : given.Over) (c : Joined-row_at g) → (at : Option Row)
    × (at ≡ slice_get (rows_of (g.Self.Dirs.device c.args.self.now).state c.args.folder c.args.place) c.loop-low.low)
    × (option_and_then (λ (r : Row). cond (is_named c.args.unique.now r.name) (Some r) None) at ≡ None)
missed g c = elim c.match-row_at.branch [
  | in-Some+else-is_named w ↦ (
    Some w.in-Some.row,
    w.in-Some.ensures.row,
    ap (λ b. cond {A = Option Row} b (Some w.in-Some.row) None) (ap (is_named c.args.unique.now) (sym w.name-in-Some.ensures) ∙ sym w.is_named.ensures ∙ w.if-is_named.false),
  )
  | in_default w ↦ (None, w.in_default.ensures.row, refl)
]

pub returns-in_err-row : goal.returns-in_err-row
returns-in_err-row g c =
    let s : State = (g.Self.Dirs.device c.args.self.now).state in
    let rows = names s c.args.folder c.args.place in
    let u = c.args.unique.now in
    let m = missed g (goal.at.returns-in_err-row g c).Joined-row_at in
    rw c.from_residual-in_err-row.ensures
    (row-at_info s c.args.folder c.args.place u c.loop-low.low c.loop-from.from m.0 None
    (halved-edge rows u 1 c.loop-low.low c.loop-low.high c.loop-low.invariant (omega (arith, c.loop-low-test.false))) m.1 m.2
    (halved-edge rows u 3 c.loop-from.from c.loop-from.end c.loop-from.invariant (omega (arith, c.loop-from-test.false))) c.in_err-row.ensures.row)

pub returns-then-is_named-2 : goal.returns-then-is_named-2
returns-then-is_named-2 g c =
    let s : State = (g.Self.Dirs.device c.args.self.now).state in
    let rows = names s c.args.folder c.args.place in
    let u = c.args.unique.now in
    let m = missed g (goal.at.returns-then-is_named-2 g c).Joined-row_at in
    sym (ap (λ b. cond {A = Option Row} b (Some c.in_ok-row.row) None) (ap (is_named u) (sym c.name-2.ensures) ∙ sym c.is_named-2.ensures ∙ c.if-is_named-2.true))
    ∙ row-at_info s c.args.folder c.args.place u c.loop-low.low c.loop-from.from m.0 (Some c.in_ok-row.row)
    (halved-edge rows u 1 c.loop-low.low c.loop-low.high c.loop-low.invariant (omega (arith, c.loop-low-test.false))) m.1 m.2
    (halved-edge rows u 3 c.loop-from.from c.loop-from.end c.loop-from.invariant (omega (arith, c.loop-from-test.false))) c.in_ok-row.ensures.row

pub returns-else-is_named-2 : goal.returns-else-is_named-2
returns-else-is_named-2 g c =
    let s : State = (g.Self.Dirs.device c.args.self.now).state in
    let rows = names s c.args.folder c.args.place in
    let u = c.args.unique.now in
    let m = missed g (goal.at.returns-else-is_named-2 g c).Joined-row_at in
    sym (ap (λ b. cond {A = Option Row} b (Some c.in_ok-row.row) None) (ap (is_named u) (sym c.name-2.ensures) ∙ sym c.is_named-2.ensures ∙ c.if-is_named-2.false))
    ∙ row-at_info s c.args.folder c.args.place u c.loop-low.low c.loop-from.from m.0 (Some c.in_ok-row.row)
    (halved-edge rows u 1 c.loop-low.low c.loop-low.high c.loop-low.invariant (omega (arith, c.loop-low-test.false))) m.1 m.2
    (halved-edge rows u 3 c.loop-from.from c.loop-from.end c.loop-from.invariant (omega (arith, c.loop-from-test.false))) c.in_ok-row.ensures.row
