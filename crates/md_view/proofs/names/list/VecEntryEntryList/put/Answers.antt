use Rattle.std.proofs.Common.{ℕ, List, Some, slice_set, refl, ap, sym, subst, ◌∙◌}
use Rattle.std.specs.Prelude.{insert}
use Rattle.md_listing.specs.declared.entry.Entry.{Entry}
use Rattle.md_view.specs.Held.{HasAt, IsGapFor, DiffersAt}
use Rattle.md_view.proofs.Held.Placing.{set-there, put-there}
use Rattle.md_view.proofs.names.list.VecEntryEntryList.put.Goals as goal

pub returns-in-Ok-clause-ok : goal.returns-in-Ok-clause-ok
returns-in-Ok-clause-ok c =
    let es = c.args.self.now.items in
    let entry = c.args.entry in
    let at = c.in-Ok.at in
    let own = c.as_slice-2.ensures ∙ ap (λ (e : Entry). e.unique) c.in_ok-entry.ensures in
    let has : HasAt es entry.unique at = subst (λ (l : List Entry). HasAt l entry.unique at) c.as_slice.ensures.value
    (subst (λ (u : List ℕ). HasAt c.as_slice.result.now u at) own c.in-Ok.ensures.found) in
    subst (λ (e : Entry). DiffersAt entry.unique (Some entry) es (slice_set es at e)) (sym c.in_ok-entry.ensures)
    (set-there entry.unique es c.requires at entry refl has)

pub returns-in_ok-insert-in-Err-clause-ok : goal.returns-in_ok-insert-in-Err-clause-ok
returns-in_ok-insert-in-Err-clause-ok c =
    let es = c.args.self.now.items in
    let entry = c.args.entry in
    let at = c.in-Err.at in
    let own = c.as_slice-2.ensures ∙ ap (λ (e : Entry). e.unique) c.in_ok-entry.ensures in
    let gap : IsGapFor es entry.unique at = subst (λ (l : List Entry). IsGapFor l entry.unique at) c.as_slice.ensures.value
    (subst (λ (u : List ℕ). IsGapFor c.as_slice.result.now u at) own c.in-Err.ensures.absent) in
    subst (λ (l : List Entry). DiffersAt entry.unique (Some entry) es l) (sym c.in_ok-insert-in-Err.ensures.items)
    (subst (λ (e : Entry). DiffersAt entry.unique (Some entry) es (insert es at e)) (sym c.in_ok-entry.ensures)
    (put-there entry.unique es c.requires at entry refl gap))
