use Rattle.std.proofs.Common.{Bool, true, false, inl, Some, None, IsSome, IsTrue, ◌≡◌, ◌⊎◌, [], List, ℕ, ◌∙◌, refl, sym, ap, subst, if◌then◌else◌}
use Rattle.std.proofs.lemmas.Bool.{not-false}
use Rattle.std.specs.List.{list_any}
use Rattle.md_name.specs.Names.{unique_of, is_colon}
use Rattle.md_dirs.specs.Named.{Row}
use Rattle.md_dirs.specs.Index.{IsOrderOf, get_name}
use Rattle.md_dirs.proofs.NameRows.{same}
use Rattle.md_dirs.proofs.Alike.{Renamed, replaced, renamed-at}
use Rattle.md_dirs.proofs.Moved.{info-changes}
use Rattle.md_dirs.proofs.index.names.rename_row.Goals as goal
use Rattle.md_dirs.proofs.index.names.rename_row.Goals.{After-keep_order}

one : (c : After-keep_order) → same (unique_of c.args.old.now) (unique_of c.args.new.now) ≡ true
one c =
    (λ i. same (sym (c.unique.ensures ∙ ap unique_of c.in-Some.ensures.name) i)
    (sym (c.unique-else-is.ensures ∙ ap (λ (r : Row). unique_of r.0) c.in_ok-renamed.ensures) i))
    ∙ not-false (same c.unique.result.now c.unique-else-is.result.now) (sym c.ne.ensures ∙ c.if-ne.false)

made : (c : After-keep_order) → c.replace.new.self.keys ≡ replaced c.args.table.now.keys (c.args.new.now, c.args.file)
made c = let x = c.in_ok-renamed.ensures in rw x at c.in_ok-replace.ensures.keys

names : (c : After-keep_order) → (get_name c.args.table.now.keys c.args.old.now ≡ Some c.in-Some.row.now.1) ×
    (get_name c.args.table.now.keys c.args.new.now ≡ None) ×
    Renamed c.args.table.now.keys c.replace.new.self.keys c.args.old.now c.args.new.now c.args.file
names c =
    let differs : same c.args.old.now c.args.new.now ≡ false =
    ap (λ n. same n c.args.new.now) (sym c.in-Some.ensures.name) ∙ sym c.is.ensures ∙ c.if-is.false in
    renamed-at c.args.table.now.keys c.replace.new.self.keys c.args.at c.args.old.now c.args.new.now c.args.file c.in-Some.row.now.1
    c.in-Some.ensures.apart c.in-Some.ensures.there (one c) differs (made c)

pub returns-clause-there : goal.returns-clause-there
returns-clause-there c t = subst IsSome (sym (names c).0) refl

pub returns-clause-free : goal.returns-clause-free
returns-clause-free c t = (names c).1

pub returns-clause-names : goal.returns-clause-names
returns-clause-names c t q = (names c).2 q

pub returns-clause-ordered : goal.returns-clause-ordered
returns-clause-ordered c = by c.both_have_info-stays.result c.both_have_info-stays.ensures c.keep_order.ensures
  where
    Ordered : List ℕ → Type 0
    Ordered order = (order ≡ []) ⊎ IsOrderOf c.replace.new.self.keys order

    by : (b : Bool) → (IsTrue b → (list_any is_colon c.in-Some.row.now.0 ≡ true) × (list_any is_colon c.in_ok-renamed.renamed.0 ≡ true))
        → c.keep_order.new.order.items ≡ (if b then c.args.order.now.items else []) → Ordered c.keep_order.new.order.items
    by true info kept =
        subst Ordered (sym kept)
        (info-changes c.args.table.now.keys c.replace.new.self.keys c.args.order.now.items c.args.old.now c.args.new.now c.args.file c.in-Some.row.now.1
        c.in-Some.ensures.apart (one c) (names c).0 (names c).1 (made c)
        (ap (list_any is_colon) (sym c.in-Some.ensures.name) ∙ (info refl).0)
        (ap (λ (y : Row). list_any is_colon y.0) (sym c.in_ok-renamed.ensures) ∙ (info refl).1) c.requires.ordered)
    by false info kept = inl kept
