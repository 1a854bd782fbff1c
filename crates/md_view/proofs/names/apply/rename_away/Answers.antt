use Rattle.std.proofs.Common.{ℕ, ◌<◌, List, None, refl, slice_set, sym, subst, ◌∙◌}
use Rattle.std.proofs.lemmas.List.{length-set}
use Rattle.std.proofs.lemmas.Option.{slice_get_read}
use Rattle.md_view.specs.Held.{DiffersIn, held_names}
use Rattle.md_view.proofs.Held.Applying.{within-listed, rename-from, rename-to, rename-old, rename-put, rename-moved}
use Rattle.md_view.proofs.names.apply.rename_away.Goals as goal

pub size_of-size-requires : goal.size_of-size-requires
size_of-size-requires g c =
    let fs = c.args.folders.now.items in
    let name = c.args.name.now in
    let to_name = c.args.to_name.now in
    rename-old (held_names fs) fs c.requires.names c.args.folder c.args.place name c.args.to_folder c.args.to_place to_name c.requires.fits
    c.unique_part-unique.result.now c.deref.result.now c.deref.ensures.value c.unique_part-unique.ensures

pub returns-clause-ok : goal.returns-clause-ok
returns-clause-ok g c =
    let fs = c.args.folders.now.items in
    let n = held_names fs in
    let folder = c.args.folder in
    let place = c.args.place in
    let name = c.args.name.now in
    let to_folder = c.args.to_folder in
    let to_place = c.args.to_place in
    let to_name = c.args.to_name.now in
    let unique = c.unique_part-unique.result.now in
    let f = c.index_mut-to_lists.result.now in
    let f' = c.put.new.self in
    let h = c.index_mut-lists.result.now in
    let h' = c.take.new.self in
    let to = rename-to n fs c.requires.names folder place name to_folder to_place to_name c.requires.fits in
    let from = rename-from n fs c.requires.names folder place name to_folder to_place to_name c.requires.fits in
    let within = within-listed n fs c.requires.names to_folder to_place to in
    let low = within-listed n fs c.requires.names folder place from in
    let at = slice_get_read fs _ to_folder f refl within c.index_mut-to_lists.ensures.value in
    let there = slice_get_read (slice_set fs to_folder f') _ folder h refl
    (subst (λ k. folder < k) (sym (length-set fs to_folder f')) low) c.index_mut-lists.ensures.value in
    rename-moved n fs c.requires.names folder place name to_folder to_place to_name c.requires.fits f f' at
    (rename-put n fs c.requires.names folder place name to_folder to_place to_name c.requires.fits
    unique c.deref.result.now c.deref.ensures.value c.unique_part-unique.ensures c.size_of-size.result c.size_of-size.ensures
    c.new-entry.result
    (c.new-entry.ensures ∙ (λ i. record { unique = c.unique_part.ensures i; place = to_place; name = to_name; size = c.size_of-size.result }))
    f f' c.in_ok-put.ensures.ok)
    h h' there
    (subst (λ (u : List ℕ). DiffersIn place u None h h') c.unique_part-unique.ensures c.take.ensures)
    c.requires.away
