use Rattle.std.proofs.Common.{◌≡◌, ◌∙◌, ◌++◌, ◌∷◌, [], sym, ap, Some, None, false, is_some, slice_get}
use Rattle.std.specs.List.{list_any}
use Rattle.std.specs.Option.{option_copied}
use Rattle.md_dirs.specs.Index.{get_name}
use Rattle.md_dirs.specs.Named.{Row, is_alike}
use Rattle.md_dirs.proofs.Alike.{none-from, none-listed, found-name, found-other, found-there, put-others, put-new, is-beside, is-in-table, is-nowhere}
use Rattle.md_dirs.proofs.index.names.Names.add.Goals as goal
use Rattle.md_dirs.proofs.index.names.Names.add.Goals.{After-self-1, In_ok-put_beside}

pub returns-then-is_some-clause-new : goal.returns-then-is_some-clause-new
returns-then-is_some-clause-new c =
    let rows = c.self.inside.table.keys in
    let others = c.self.inside.others.entries in
    rw (← c.self.view_is) (is-beside rows others c.args.name.now (ap is_some (sym c.file_beside.ensures) ∙ sym c.is_some.ensures ∙ c.if-is_some.true))

-- no row had the unique part, no name beside the table was the name, and the row is the last
came : (c : After-self-1) → (c.add_row.new.table.keys ≡ c.self.inside.table.keys ++ (c.args.name.now, c.args.file) ∷ []) ×
    (list_any (is_alike (c.args.name.now, c.args.file)) c.self.inside.table.keys ≡ false) × (get_name c.self.inside.others.entries c.args.name.now ≡ None)
came c =
    let x : c.in_ok-row.row ≡ (c.args.name.now, c.args.file) = c.in_ok-row.ensures in
    let added = rw (c.in_default.is, x) at c.in_ok-at.ensures.added in
    (added.0, added.1, none-from _ (ap is_some (sym c.file_beside.ensures) ∙ sym c.is_some.ensures ∙ c.if-is_some.false))

pub invariant_of-self-in_default : goal.invariant_of-self-in_default
invariant_of-self-in_default c =
    let new = came c in
    record {
      apart = (put-new c.self.inside.table.keys c.self.inside.others.entries c.add_row.new.table.keys (c.args.name.now, c.args.file) new.2
          (new.0, new.1) c.self.invariant.apart).1;
      ordered = c.in_ok-at.ensures.ordered;
    }

pub returns-in_default-clause-new : goal.returns-in_default-clause-new
returns-in_default-clause-new c =
    let new = came c in
    let rows = c.self.inside.table.keys in
    rw (← c.self.view_is)
    (is-nowhere rows c.self.inside.others.entries c.args.name.now (none-listed (c.args.name.now, c.args.file) rows new.1) new.2)

pub returns-in_default-clause-ok : goal.returns-in_default-clause-ok
returns-in_default-clause-ok c =
    let new = came c in
    rw (← c.self.view_is)
    (put-new c.self.inside.table.keys c.self.inside.others.entries c.add_row.new.table.keys (c.args.name.now, c.args.file) new.2 (new.0, new.1)
    c.self.invariant.apart).0

pub returns-then-is-clause-new : goal.returns-then-is-clause-new
returns-then-is-clause-new c =
    let rows = c.self.inside.table.keys in
    let others = c.self.inside.others.entries in
    let y : Row = (c.args.name.now, c.args.file) in
    let x : c.in_ok-row.row ≡ (c.args.name.now, c.args.file) = c.in_ok-row.ensures in
    let there = rw (c.in-Some.is, x) at c.in_ok-at.ensures.there in
    let row = c.unwrap.result.now in
    let read : slice_get c.add_row.new.table.keys c.in-Some.at ≡ Some row = sym c.get_index.ensures.key ∙ ap option_copied c.unwrap.ensures in
    let found = rw there.0 at (found-there y rows c.add_row.new.table.keys c.in-Some.at row there read) in
    rw (← c.self.view_is) (is-in-table rows others c.args.name.now row.1 (found-name y rows row found (sym c.is.ensures ∙ c.if-is.true)))

-- no row of the table has the name, and the table is as it was
missing : (c : In_ok-put_beside) →
    (c.add_row.new.table.keys ≡ c.self.inside.table.keys) × (get_name c.add_row.new.table.keys c.args.name.now ≡ None)
missing c =
    let new = c.add_row.new.table.keys in
    let y : Row = (c.args.name.now, c.args.file) in
    let x : c.in_ok-row.row ≡ (c.args.name.now, c.args.file) = c.in_ok-row.ensures in
    let there = rw (c.in-Some.is, x) at c.in_ok-at.ensures.there in
    let row = c.unwrap.result.now in
    let read : slice_get new c.in-Some.at ≡ Some row = sym c.get_index.ensures.key ∙ ap option_copied c.unwrap.ensures in
    let found = found-there y c.self.inside.table.keys new c.in-Some.at row there read in
    (there.0, found-other y new row c.in_ok-at.ensures.apart found (sym c.is.ensures ∙ c.if-is.false))

pub invariant_of-self-2 : goal.invariant_of-self-2
invariant_of-self-2 c =
    let m = missing c in
    let apart = rw (← m.0) at c.self.invariant.apart in
    record {
      apart = (put-others c.add_row.new.table.keys c.self.inside.others.entries c.put_beside.new.others.entries c.args.name.now c.args.file m.1
          c.in_ok-put_beside.ensures.names apart).1;
      ordered = c.in_ok-at.ensures.ordered;
    }

pub returns-clause-new : goal.returns-clause-new
returns-clause-new c =
    let m = missing c in
    let others = c.self.inside.others.entries in
    let none = none-from (get_name others c.args.name.now) (ap is_some (sym c.file_beside.ensures) ∙ sym c.is_some.ensures ∙ c.if-is_some.false) in
    rw (← c.self.view_is, ← m.0) (is-nowhere c.add_row.new.table.keys others c.args.name.now m.1 none)

pub returns-clause-ok : goal.returns-clause-ok
returns-clause-ok c =
    let m = missing c in
    let apart = rw (← m.0) at c.self.invariant.apart in
    rw (← c.self.view_is, ← m.0)
    (put-others c.add_row.new.table.keys c.self.inside.others.entries c.put_beside.new.others.entries c.args.name.now c.args.file m.1
    c.in_ok-put_beside.ensures.names apart).0
