use Rattle.std.proofs.Common.{◌≡◌, List, None, sym, subst}
use Rattle.md_listing.specs.declared.entry.Entry.{Entry}
use Rattle.md_view.specs.Held.{entry_with, HasAt, DiffersAt}
use Rattle.md_view.proofs.Held.Placing.{differs-not, found-none, take-there}
use Rattle.md_view.proofs.names.list.VecEntryEntryList.take.Goals as goal

pub returns-in-Ok : goal.returns-in-Ok
returns-in-Ok c =
    let es = c.args.self.now.items in
    let u = c.args.unique.now in
    let at = c.in-Ok.at in
    subst (λ (l : List Entry). DiffersAt u None es l) (sym c.remove-gone.ensures.items)
    (take-there u es c.requires at (subst (λ (l : List Entry). HasAt l u at) c.as_slice.ensures.value c.in-Ok.ensures.found))

pub returns-in_default : goal.returns-in_default
returns-in_default c =
    let u = c.args.unique.now in
    let none = subst (λ (l : List Entry). entry_with u l ≡ None) c.as_slice.ensures.value (found-none u _ _ c.in_default.ensures.absent) in
    differs-not u None c.args.self.now.items c.requires (sym none)
