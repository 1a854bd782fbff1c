use Rattle.std.proofs.Common.{ℕ, ◌≡◌, List, Some, true, false, Ok, Err, slice_set, refl, sym, subst, ap, ◌∙◌}
use Rattle.std.specs.Prelude.{unwrap_or}
use Rattle.std.specs.Result.{OnOk}
use Rattle.std.proofs.lemmas.Option.{slice_get_read}
use Rattle.md_name.specs.Names.{unique_of, info_of, is_message_name}
use Rattle.md_name.specs.declared.info.Info.{Info}
use Rattle.md_jobs.specs.declared.effect.Change.TheVariants.{Add}
use Rattle.md_listing.specs.declared.entry.Entry.{Entry}
use Rattle.md_view.specs.Named.{Named, after_change, is_listed}
use Rattle.md_view.specs.Held.{FolderLists, list_of, entry_with, DiffersIn, ExistsElsewhere, AreHeld, held_names}
use Rattle.md_listing.proofs.Rows.{if-some}
use Rattle.md_view.proofs.Held.Applying.{no-parts, within-listed, add-other, add-beside, add-new}
use Rattle.md_view.proofs.names.apply.add.Goals as goal

pub returns-in_default-clause-ok : goal.returns-in_default-clause-ok
returns-in_default-clause-ok g c =
    let fs = c.args.folders.now.items in
    subst (λ (n : Named). AreHeld n fs)
    (sym (add-other (held_names fs) fs c.requires c.args.folder c.args.place c.args.name.now c.args.size
    (no-parts (is_message_name c.args.name.now) (unique_of c.args.name.now, info_of c.args.name.now) c.in_default.ensures)))
    c.requires

pub returns-then-not-may_take-clause-ok : goal.returns-then-not-may_take-clause-ok
returns-then-not-may_take-clause-ok g c =
    let fs = c.args.folders.now.items in
    let says = if-some (is_message_name c.args.name.now) (unique_of c.args.name.now, info_of c.args.name.now) (c.in-Some.unique.now, c.in-Some.field-0-1)
    (sym c.in-Some.ensures) in
    let own : unique_of c.args.name.now ≡ c.in-Some.unique.now = ap (λ (x : List ℕ × Info). x.0) says.1 in
    subst (λ (n : Named). AreHeld n fs)
    (sym (add-beside (held_names fs) fs c.requires c.args.folder c.args.place c.args.name.now c.args.size
    (λ fits.
    let is = c.may_take.ensures.1
    (subst (λ (l : List FolderLists). (is_listed (held_names l) c.args.folder c.args.place ≡ true)
    × (ExistsElsewhere c.in-Some.unique.now c.args.folder c.args.place l → ⊥)) (sym c.deref.ensures.value)
    (fits.0, subst (λ u. ExistsElsewhere u c.args.folder c.args.place fs → ⊥) own fits.1)) in
    let never : true ≡ false = sym is ∙ c.if-not-may_take.true in
    cc)))
    c.requires

pub returns-clause-ok : goal.returns-clause-ok
returns-clause-ok g c =
    let fs = c.args.folders.now.items in
    let n = held_names fs in
    let folder = c.args.folder in
    let place = c.args.place in
    let name = c.args.name.now in
    let says = if-some (is_message_name name) (unique_of name, info_of name) (c.in-Some.unique.now, c.in-Some.field-0-1) (sym c.in-Some.ensures) in
    let own : unique_of name ≡ c.in-Some.unique.now = ap (λ (x : List ℕ × Info). x.0) says.1 in
    let may = subst (λ (l : List FolderLists). (is_listed (held_names l) folder place ≡ true) × (ExistsElsewhere c.in-Some.unique.now folder place l → ⊥))
    c.deref.ensures.value (c.may_take.ensures.0 c.if-not-may_take.false) in
    let beside = subst (λ u. ExistsElsewhere u folder place fs → ⊥) (sym own) may.1 in
    let within = within-listed n fs c.requires folder place may.0 in
    let f = c.index_mut-lists.result.now in
    let f' = c.put_new.new.self in
    let at = slice_get_read fs _ folder f refl within c.index_mut-lists.ensures.value in
    let e = c.new.result in
    let made : e ≡ record { unique = unique_of name; place = place; name = name; size = c.args.size } =
    c.new.ensures ∙ (λ i. record { unique = sym own i; place = place; name = name; size = c.args.size }) in
    elim c.put_new.result as (λ r. OnOk r (DiffersIn place e.unique (Some (unwrap_or (entry_with e.unique (list_of place f)) e)) f f')
    → OnOk r (AreHeld (after_change n (Add folder place name c.args.size)) (slice_set fs folder f'))) [
      | Ok _ ↦ λ shows. add-new n fs c.requires folder place name c.args.size says.0 may.0 beside f f' at
          (subst (λ (x : Entry). DiffersIn place x.unique (Some (unwrap_or (entry_with x.unique (list_of place f)) x)) f f') made shows)
      | Err _ ↦ λ _. tt
    ] c.put_new.ensures.ok
