use Rattle.std.proofs.Common.{ℕ, List, ◌≡◌, true, false, sym, ap, ◌∙◌}
use Rattle.std.specs.List.{list_any}
use Rattle.std.proofs.lemmas.Slice.Eq.{bytes_eq-Decides}
use Rattle.md_name.specs.Names.{unique_of, info_of, is_message_name}
use Rattle.md_name.specs.declared.info.Info.{Info}
use Rattle.md_view.specs.Held.{held_names, has_unique}
use Rattle.md_listing.proofs.Rows.{if-some}
use Rattle.md_view.proofs.Held.Applying.{free-same, free-beside}
use Rattle.md_view.proofs.names.fits.is_free_after.Goals as goal

pub returns-then-eq : goal.returns-then-eq
returns-then-eq g c =
    let old = if-some (is_message_name c.args.old.now) (unique_of c.args.old.now, info_of c.args.old.now) (c.in-Some.old_unique.now, c.in-Some.field-0-1)
    (sym c.in-Some.ensures) in
    let new = if-some (is_message_name c.args.name.now) (unique_of c.args.name.now, info_of c.args.name.now)
    (c.in-Some-split.unique.now, c.in-Some-split.field-0-1) (sym c.in-Some-split.ensures) in
    let same : c.in-Some-split.unique.now ≡ c.in-Some.old_unique.now =
    (bytes_eq-Decides c.in-Some-split.unique.now c.in-Some.old_unique.now).0 (sym c.eq.ensures ∙ c.if-eq.true) in
    c.if-eq.true
    ∙ free-same (held_names c.args.folders.now) c.args.folders.now c.requires.names c.args.old.now c.args.name.now new.0
    (ap (λ (x : List ℕ × Info). x.0) new.1 ∙ same ∙ sym (ap (λ (x : List ℕ × Info). x.0) old.1))

pub returns-else-eq : goal.returns-else-eq
returns-else-eq g c =
    let old = if-some (is_message_name c.args.old.now) (unique_of c.args.old.now, info_of c.args.old.now) (c.in-Some.old_unique.now, c.in-Some.field-0-1)
    (sym c.in-Some.ensures) in
    let new = if-some (is_message_name c.args.name.now) (unique_of c.args.name.now, info_of c.args.name.now)
    (c.in-Some-split.unique.now, c.in-Some-split.field-0-1) (sym c.in-Some-split.ensures) in
    let here : unique_of c.args.name.now ≡ c.in-Some-split.unique.now = ap (λ (x : List ℕ × Info). x.0) new.1 in
    let there : unique_of c.args.old.now ≡ c.in-Some.old_unique.now = ap (λ (x : List ℕ × Info). x.0) old.1 in
    free-beside (held_names c.args.folders.now) c.args.folders.now c.requires.names c.args.old.now c.args.name.now new.0
    (λ same.
    let both = (bytes_eq-Decides c.in-Some-split.unique.now c.in-Some.old_unique.now).1 (sym here ∙ same ∙ there) in
    let never : true ≡ false = sym both ∙ sym c.eq.ensures ∙ c.if-eq.false in
    cc)
    c.unique_exists.result (c.unique_exists.ensures ∙ ap (λ (v : List ℕ). list_any (has_unique v) c.args.folders.now) (sym here))
