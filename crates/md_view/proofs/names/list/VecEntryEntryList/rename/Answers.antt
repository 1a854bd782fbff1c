use Rattle.std.proofs.Common.{ℕ, ◌≡◌, List, None, true, false, slice_set, ap, sym, subst, ◌∙◌, arith}
use Rattle.std.specs.Prelude.{nat_eq}
use Rattle.std.specs.Option.{option_map}
use Rattle.std.specs.Cmp.Lexicographic.{pointwise}
use Rattle.std.proofs.lemmas.Option.{get_or_from_slice_get}
use Rattle.md_listing.specs.declared.entry.Entry.{Entry}
use Rattle.md_view.specs.Held.{entry_with, renamed, HasAt, DiffersAt}
use Rattle.md_view.proofs.Held.Placing.{differs-not, found-none, rename-there, rename-other}
use Rattle.md_view.proofs.names.list.VecEntryEntryList.rename.Goals as goal

pub returns-in_default-clause-ok : goal.returns-in_default-clause-ok
returns-in_default-clause-ok c =
    let u = c.args.unique.now in
    let none = subst (λ (l : List Entry). entry_with u l ≡ None) c.as_slice.ensures.value (found-none u _ _ c.in_default.ensures.absent) in
    differs-not u _ c.args.self.now.items c.requires (ap (option_map (renamed c.args.name.now c.args.to_name.now)) none ∙ sym none)

pub index-requires : goal.index-requires
index-requires c = let within = c.in-Ok.ensures.found.within in let len = c.as_slice.ensures.len in omega (arith, within, len)

pub index_mut-requires : goal.index_mut-requires
index_mut-requires c = let within = c.in-Ok.ensures.found.within in let len = c.as_slice.ensures.len in omega (arith, within, len)

pub returns-in_ok-to_name-clause-ok : goal.returns-in_ok-to_name-clause-ok
returns-in_ok-to_name-clause-ok c =
    let es = c.args.self.now.items in
    let u = c.args.unique.now in
    let name = c.args.name.now in
    let to_name = c.args.to_name.now in
    let at = c.in-Ok.at in
    let has = subst (λ (l : List Entry). HasAt l u at) c.as_slice.ensures.value c.in-Ok.ensures.found in
    let read = c.index.ensures ∙ get_or_from_slice_get es at has.entry c.index.result.now has.is in
    let same : pointwise nat_eq has.entry.name name ≡ true =
    ap (λ (e : Entry). pointwise nat_eq e.name name) (sym read) ∙ ap (λ (v : List ℕ). pointwise nat_eq v name) (sym c.as_slice-2.ensures)
    ∙ sym c.eq.ensures ∙ c.if-eq.true in
    let lent = c.index_mut.ensures.value ∙ get_or_from_slice_get es at has.entry c.index_mut.result.now has.is in
    let what = option_map (renamed name to_name) (entry_with u es) in
    subst (λ (v : List ℕ). DiffersAt u what es (slice_set es at (record c.index_mut.result.now { name = v }))) (sym c.in_ok-to_name.ensures)
    (subst (λ (e : Entry). DiffersAt u what es (slice_set es at (record e { name = to_name }))) (sym lent)
    (rename-there u es c.requires at name to_name has same))

pub returns-else-eq-clause-ok : goal.returns-else-eq-clause-ok
returns-else-eq-clause-ok c =
    let es = c.args.self.now.items in
    let name = c.args.name.now in
    let at = c.in-Ok.at in
    let has = subst (λ (l : List Entry). HasAt l c.args.unique.now at) c.as_slice.ensures.value c.in-Ok.ensures.found in
    let read = c.index.ensures ∙ get_or_from_slice_get es at has.entry c.index.result.now has.is in
    let other : pointwise nat_eq has.entry.name name ≡ false =
    ap (λ (e : Entry). pointwise nat_eq e.name name) (sym read) ∙ ap (λ (v : List ℕ). pointwise nat_eq v name) (sym c.as_slice-2.ensures)
    ∙ sym c.eq.ensures ∙ c.if-eq.false in
    rename-other c.args.unique.now es c.requires at name c.args.to_name.now has other
