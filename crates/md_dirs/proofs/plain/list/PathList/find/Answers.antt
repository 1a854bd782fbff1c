use Rattle.std.proofs.Common.{ℕ, List, Some, None, ◌∙◌, sym, ap, refl, cond, map, ltb-true, ltb-false}
use Rattle.std.proofs.lemmas.Option.{slice_get_read}
use Rattle.std.specs.Option.{option_and_then, option_map}
use Rattle.md_dirs.specs.Rows.{is_named as is_named_by}
use Rattle.md_dirs.specs.Index.{named_row}
use Rattle.std.proofs.lemmas.Option.{slice_get-map, slice_get_past}
use Rattle.lists.proofs.Booleans.{holds, is_true}
use Rattle.md_dirs.proofs.Sliced.{names-sorted, rows-listed}
use Rattle.md_dirs.proofs.plain.list.PathList.find.Goals as goal

pub first_place-requires : goal.first_place-requires
first_place-requires c =
    rw (c.directory-rows.ensures, c.deref.ensures.value)
    (is_true _ (names-sorted c.args.folder c.args.place c.self.inside.rows.items (holds _ c.self.invariant)))

pub returns-in_err-path : goal.returns-in_err-path
returns-in_err-path c =
    let part = rw c.deref.ensures.value at c.directory-rows.ensures in
    let listed = rows-listed c.self.inside.rows.items c.args.folder c.args.place (holds _ c.self.invariant) ∙ ap (map named_row) (sym part) in
    rw (c.from_residual.ensures, ← c.self.view_is, listed)
    (sym (c.first_place.ensures ∙
    ap (option_and_then (λ (e : List ℕ × ℕ). cond (is_named_by c.args.unique.now e.0) (Some e) None))
    (slice_get-map named_row c.directory-rows.result.now c.first_place.result ∙
    ap (option_map named_row) (slice_get_past c.directory-rows.result.now c.first_place.result (ltb-false _ _ (sym c.in_err-path.ensures.lookup.0))))))

pub returns-then-is_named : goal.returns-then-is_named
returns-then-is_named c =
    let part = rw c.deref.ensures.value at c.directory-rows.ensures in
    let listed = rows-listed c.self.inside.rows.items c.args.folder c.args.place (holds _ c.self.invariant) ∙ ap (map named_row) (sym part) in
    let row : List ℕ × ℕ = named_row c.in_ok-path.field-0.now in
    let named = sym (ap (is_named_by c.args.unique.now) c.as_slice.ensures) ∙ sym c.is_named.ensures ∙ c.if-is_named.true in
    rw (c.as_slice-then-is_named.ensures, ← c.self.view_is, listed)
    (sym (c.first_place.ensures ∙
    ap (option_and_then (λ (e : List ℕ × ℕ). cond (is_named_by c.args.unique.now e.0) (Some e) None))
    (slice_get-map named_row c.directory-rows.result.now c.first_place.result ∙
    ap (option_map named_row)
    (slice_get_read c.directory-rows.result.now _ c.first_place.result c.in_ok-path.field-0.now refl
    (ltb-true _ _ (sym c.in_ok-path.ensures.lookup.0)) c.in_ok-path.ensures.lookup.1))
    ∙ ap (λ b. cond b (Some row) None) named))

pub returns-else-is_named : goal.returns-else-is_named
returns-else-is_named c =
    let part = rw c.deref.ensures.value at c.directory-rows.ensures in
    let listed = rows-listed c.self.inside.rows.items c.args.folder c.args.place (holds _ c.self.invariant) ∙ ap (map named_row) (sym part) in
    let row : List ℕ × ℕ = named_row c.in_ok-path.field-0.now in
    let named = sym (ap (is_named_by c.args.unique.now) c.as_slice.ensures) ∙ sym c.is_named.ensures ∙ c.if-is_named.false in
    rw (← c.self.view_is, listed)
    (sym (c.first_place.ensures ∙
    ap (option_and_then (λ (e : List ℕ × ℕ). cond (is_named_by c.args.unique.now e.0) (Some e) None))
    (slice_get-map named_row c.directory-rows.result.now c.first_place.result ∙
    ap (option_map named_row)
    (slice_get_read c.directory-rows.result.now _ c.first_place.result c.in_ok-path.field-0.now refl
    (ltb-true _ _ (sym c.in_ok-path.ensures.lookup.0)) c.in_ok-path.ensures.lookup.1))
    ∙ ap (λ b. cond b (Some row) None) named))
