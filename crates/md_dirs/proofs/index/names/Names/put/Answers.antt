use Rattle.std.proofs.Common.{ℕ, Option, Some, None, Bool, true, false, not, is_some, ◌≡◌, ◌∙◌, refl, sym, ap}
use Rattle.std.specs.Option.{option_map}
use Rattle.md_name.specs.Names.{unique_of}
use Rattle.md_dirs.specs.Index.{get_name}
use Rattle.md_dirs.specs.Named.{Row}
use Rattle.md_dirs.proofs.Alike.{tested, found-row, put-others, put-there}
use Rattle.md_dirs.proofs.Moved.{renumbered}
use Rattle.md_dirs.proofs.index.names.Names.put.Goals as goal

no-file : (r : Option (ℕ × ℕ)) (o : Option ℕ) (b : Bool) → is_some r ≡ not b → b ≡ true → option_map (λ (p : ℕ × ℕ). p.1) r ≡ o → o ≡ None
no-file None o b is none file = sym file
no-file (Some p) o b is none file = let wrong : true ≡ false = is ∙ ap not none in cc

some-file : (r : Option (ℕ × ℕ)) (o : Option ℕ) (b : Bool) → is_some r ≡ not b → b ≡ false → option_map (λ (p : ℕ × ℕ). p.1) r ≡ o → (w : ℕ) × (o ≡ Some w)
some-file None o b is there file = let wrong : false ≡ true = is ∙ ap not there in cc
some-file (Some p) o b is there file = (p.1, sym file)

pub returns-then-is_none-clause-ok : goal.returns-then-is_none-clause-ok
returns-then-is_none-clause-ok c =
    let rows = c.self.inside.table.keys in
    let others = c.self.inside.others.entries in
    let view = c.self.view_is ∙ rw c.if-branch.false at c.in_ok-add.ensures.ok in
    let none = no-file c.place_in.result (get_name rows c.args.name.now) c.is_none.result c.is_none.ensures c.if-is_none.true c.place_in.ensures.file in
    rw (← view) (put-others rows others c.put_beside.new.others.entries c.args.name.now c.args.file none c.in_ok-put_beside.ensures.names
    c.self.invariant.apart).0

pub invariant_of-self-2 : goal.invariant_of-self-2
invariant_of-self-2 c =
    let rows = c.self.inside.table.keys in
    let others = c.self.inside.others.entries in
    let name = c.args.name.now in
    let y : Row = (name, c.args.file) in
    let x : c.in_ok-row.row ≡ (c.args.name.now, c.args.file) = c.in_ok-row.ensures in
    let some = some-file c.place_in.result (get_name rows name) c.is_none.result c.is_none.ensures c.if-is_none.false c.place_in.ensures.file in
    let found = found-row y rows name some.0 c.place_in.ensures.apart (tested (unique_of name) (unique_of name) refl) some.1 in
    let key = tested found.0.0 name found.2 in
    let keys = rw x at c.in_ok-replace.ensures.keys in
    record {
      apart = (put-there rows others c.replace.new.self.keys y found.0 c.place_in.ensures.apart found.1 key keys c.self.invariant.apart).1;
      ordered = renumbered rows c.replace.new.self.keys c.self.inside.order.items y found.0 c.place_in.ensures.apart found.1 key keys c.self.invariant.ordered;
    }

pub returns-clause-ok : goal.returns-clause-ok
returns-clause-ok c =
    let rows = c.self.inside.table.keys in
    let others = c.self.inside.others.entries in
    let name = c.args.name.now in
    let y : Row = (name, c.args.file) in
    let x : c.in_ok-row.row ≡ (c.args.name.now, c.args.file) = c.in_ok-row.ensures in
    let some = some-file c.place_in.result (get_name rows name) c.is_none.result c.is_none.ensures c.if-is_none.false c.place_in.ensures.file in
    let found = found-row y rows name some.0 c.place_in.ensures.apart (tested (unique_of name) (unique_of name) refl) some.1 in
    let view = c.self.view_is ∙ rw c.if-branch.false at c.in_ok-add.ensures.ok in
    let keys = rw x at c.in_ok-replace.ensures.keys in
    rw (← view) (put-there rows others c.replace.new.self.keys y found.0 c.place_in.ensures.apart found.1 (tested found.0.0 name found.2) keys c.self.invariant.apart).0
