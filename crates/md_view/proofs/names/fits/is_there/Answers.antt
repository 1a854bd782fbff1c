use Rattle.std.proofs.Common.{ℕ, ◌≡◌, ◌≤◌, List, Some, inl, inr, Bor, true, false, length, slice_get, refl, sym, ap, ◌∙◌, lt-ltb, ltb-true}
use Rattle.std.specs.Slice.{IsItemAt}
use Rattle.std.specs.Cmp.Lexicographic.{pointwise}
use Rattle.std.specs.Prelude.{nat_eq}
use Rattle.std.proofs.lemmas.Bool.{cases_lt}
use Rattle.std.proofs.lemmas.Option.{slice_get_read}
use Rattle.md_name.specs.Names.{unique_of, info_of, is_message_name}
use Rattle.md_name.specs.declared.info.Info.{Info}
use Rattle.md_view.specs.Held.{FolderLists, held_names, entry_with, list_of}
use Rattle.md_listing.proofs.Rows.{if-some}
use Rattle.md_view.proofs.Held.Applying.{there-past, there-other, there-none, there-found, no-parts}
use Rattle.md_view.proofs.names.fits.is_there.Goals as goal

-- what is lent at a position is the element there
item-get : (fs : List FolderLists) (i : ℕ) (r : Bor FolderLists) → IsItemAt fs i (Some r) → slice_get fs i ≡ Some r.now
item-get fs i r is = slice_get_read fs _ i r.now refl (ltb-true _ _ (sym is.0)) is.1

pub returns-in_default : goal.returns-in_default
returns-in_default g c =
    let past : length c.args.folders.now ≤ c.args.folder = elim (cases_lt c.args.folder (length c.args.folders.now)) [
      | inl low ↦ let never : false ≡ true = c.in_default.ensures.lookup.0 ∙ lt-ltb _ _ low in cc
      | inr high ↦ high
    ] in
    sym (there-past (held_names c.args.folders.now) c.args.folders.now c.requires c.args.folder c.args.place c.args.name.now past)

pub returns-in_default-split : goal.returns-in_default-split
returns-in_default-split g c =
    sym (there-other (held_names c.args.folders.now) c.args.folders.now c.requires c.args.folder c.args.place c.args.name.now
    (no-parts (is_message_name c.args.name.now) (unique_of c.args.name.now, info_of c.args.name.now) c.in_default-split.ensures))

pub returns-in-Some-find : goal.returns-in-Some-find
returns-in-Some-find g c =
    let says = if-some (is_message_name c.args.name.now) (unique_of c.args.name.now, info_of c.args.name.now)
    (c.in-Some-split.unique.now, c.in-Some-split.field-0-1) (sym c.in-Some-split.ensures) in
    let at : slice_get c.args.folders.now c.args.folder ≡ Some c.in-Some.lists.now =
    item-get c.args.folders.now c.args.folder c.in-Some.lists c.in-Some.ensures.lookup in
    c.eq.ensures ∙ ap (λ (v : List ℕ). pointwise nat_eq v c.args.name.now) c.name.ensures
    ∙ sym (there-found
    (held_names c.args.folders.now) c.args.folders.now c.requires c.args.folder c.in-Some.lists.now at c.args.place c.args.name.now c.in-Some-find.entry
    (ap (λ (x : List ℕ × Info). entry_with x.0 (list_of c.args.place c.in-Some.lists.now)) says.1 ∙ sym c.in-Some-find.ensures))

pub returns-in-None : goal.returns-in-None
returns-in-None g c =
    let says = if-some (is_message_name c.args.name.now) (unique_of c.args.name.now, info_of c.args.name.now)
    (c.in-Some-split.unique.now, c.in-Some-split.field-0-1) (sym c.in-Some-split.ensures) in
    let at : slice_get c.args.folders.now c.args.folder ≡ Some c.in-Some.lists.now =
    item-get c.args.folders.now c.args.folder c.in-Some.lists c.in-Some.ensures.lookup in
    sym (there-none (held_names c.args.folders.now) c.args.folders.now c.requires c.args.folder c.in-Some.lists.now at c.args.place c.args.name.now
    (ap (λ (x : List ℕ × Info). entry_with x.0 (list_of c.args.place c.in-Some.lists.now)) says.1 ∙ sym c.in-None.ensures))
