use Rattle.std.proofs.Common.{◌≡◌, ◌++◌, List, [], ◌∷◌, length, refl, sym, ap, ◌∙◌, arith}
use Rattle.md_listing.specs.declared.entry.Entry.{Entry}
use Rattle.md_view.specs.Held.{entry_with}
use Rattle.md_view.proofs.Held.Trees.{same-found}
use Rattle.md_view.proofs.names.tree.EntryTreeEntryList.of.Goals as goal

none-left : (es : List Entry) → length es ≡ 0 → es ≡ []
none-left [] none = refl
none-left (e ∷ es) none = absurd (omega (arith, none))

pub returns : goal.returns
returns c =
    let split = c.loop-entry.invariant.split in
    let whole : c.args.all.items ≡ split.0 = split.1 ∙ ap (λ (es : List Entry). es ++ split.0) (none-left c.loop-entry.all.items (sym c.loop-entry.all.ok.0 ∙ c.in_default.ensures.cases.0)) in
    same-found c.loop-entry.tree c.args.all.items c.loop-entry.invariant.order c.requires (λ v. split.2 v ∙ ap (entry_with v) (sym whole))
