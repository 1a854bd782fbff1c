use Rattle.std.proofs.Common.{◌≡◌, true, false, sym, ◌∙◌}
use Rattle.md_view.specs.Held.{held_names}
use Rattle.md_view.proofs.Held.Applying.{there-message}
use Rattle.md_view.proofs.names.fits.fits_rename.Goals as goal
use Rattle.md_view.proofs.names.fits.fits_rename.Goals.{then-is_listed-2, else-is_listed-2}

pub is_free_after-requires-clause-message : goal.is_free_after-requires-clause-message
is_free_after-requires-clause-message g c =
    let fs = c.args.folders.now in
    there-message (held_names fs) fs c.requires c.args.folder c.args.place c.args.name.now
    (elim c.if-is_listed-2.branch [
      | then-is_listed-2 w ↦ sym w.is_there.ensures ∙ sym w.value-is ∙ c.if-is_there.true
      | else-is_listed-2 w ↦ let never : false ≡ true = sym w.if-is_listed-2.false ∙ sym w.value-is ∙ c.if-is_there.true in cc
    ])
