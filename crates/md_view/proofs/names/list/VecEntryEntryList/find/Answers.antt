use Rattle.std.proofs.Common.{◌≡◌, List, Some, None, ap, sym, subst, ◌∙◌}
use Rattle.std.proofs.lemmas.Option.{get_or_from_slice_get}
use Rattle.md_listing.specs.declared.entry.Entry.{Entry}
use Rattle.md_view.specs.Held.{entry_with, HasAt}
use Rattle.md_view.proofs.Held.Placing.{has-found, found-none}
use Rattle.md_view.proofs.names.list.VecEntryEntryList.find.Goals as goal

pub returns-in-Ok : goal.returns-in-Ok
returns-in-Ok c =
    let es = c.args.self.now.items in
    let u = c.args.unique.now in
    let at = c.in-Ok.at in
    let has = subst (λ (l : List Entry). HasAt l u at) c.as_slice.ensures.value c.in-Ok.ensures.found in
    ap Some (c.lent.ensures ∙ c.index.ensures ∙ get_or_from_slice_get es at has.entry c.index.result.now has.is) ∙ sym (has-found u es c.requires at has)

pub returns-in-Err : goal.returns-in-Err
returns-in-Err c =
    let u = c.args.unique.now in
    sym (subst (λ (l : List Entry). entry_with u l ≡ None) c.as_slice.ensures.value (found-none u _ _ c.in-Err.ensures.absent))
