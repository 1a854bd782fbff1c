use Rattle.std.proofs.Common.{ℕ, ◌≡◌, List, None, true, refl, sym, subst, ◌∙◌}
use Rattle.std.proofs.lemmas.Option.{slice_get_read}
use Rattle.md_jobs.specs.declared.effect.Change.TheVariants.{Remove}
use Rattle.md_view.specs.Named.{fits}
use Rattle.md_view.specs.Held.{FolderLists, DiffersIn, held_names}
use Rattle.md_listing.proofs.Rows.{and-first}
use Rattle.md_view.proofs.Held.Applying.{within-listed, remove-held}
use Rattle.md_view.proofs.names.apply.remove.Goals as goal

pub returns-then-fits_remove : goal.returns-then-fits_remove
returns-then-fits_remove g c =
    let fs = c.args.folders.now.items in
    let n = held_names fs in
    let fit = subst (λ (l : List FolderLists). fits (held_names l) (Remove c.args.folder c.args.place c.args.name.now) ≡ true) c.deref.ensures.value
    (sym c.fits_remove.ensures ∙ c.if-fits_remove.true) in
    let within = within-listed n fs c.requires c.args.folder c.args.place (and-first _ _ fit) in
    let at = slice_get_read fs _ c.args.folder c.index_mut-lists.result.now refl within c.index_mut-lists.ensures.value in
    remove-held n fs c.requires c.args.folder c.args.place c.args.name.now fit c.index_mut-lists.result.now c.take.new.self at
    (subst (λ (u : List ℕ). DiffersIn c.args.place u None c.index_mut-lists.result.now c.take.new.self) c.unique_part.ensures c.take.ensures)
