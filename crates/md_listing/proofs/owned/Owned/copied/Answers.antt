use Rattle.std.proofs.Common.{◌≡◌, ◌<◌, ◌∙◌, ◌++◌, ◌∷◌, [], All, sym, ap, subst, map, take, drop, length}
use Rattle.std.proofs.lemmas.List.{take_more, map_push, take-append-drop}
use Rattle.std.proofs.lemmas.List.Elements.{All-push}
use Rattle.md_listing.specs.Rows.{entry_of, IsWithin}
use Rattle.md_listing.proofs.Owning.{kept-all, kept-entries}
use Rattle.md_listing.proofs.owned.Owned.copied.Goals as goal

pub loop-entry-preserved : goal.loop-entry-preserved
loop-entry-preserved c =
    let ps = c.loop-entry.pieces.items in
    let piece = c.in_ok-put.field-0 in
    let old = c.loop-entry.text.items in
    let new = c.put.new.text.items in
    let entry = c.entry-item.result in
    let entries = c.args.entries.now in
    let at = c.loop-entry.entry-index in
    let here : at < length entries = c.loop-entry-test.true in
    let more = drop (length old) new in
    let text : new ≡ old ++ more = sym (take-append-drop (length old) new) ∙ ap (λ t. t ++ more) c.in_ok-put.ensures.text in
    let within : All (IsWithin new) ps = subst (λ t. All (IsWithin t) ps) (sym text) (kept-all old more ps c.loop-entry.invariant.0) in
    let before : map (entry_of new) ps ≡ take c.loop-entry.entry-index c.args.entries.now =
    ap (λ t. map (entry_of t) ps) text ∙ kept-entries old more ps c.loop-entry.invariant.0 ∙ c.loop-entry.invariant.1 in
    rw (c.in_ok-push.ensures.items) (
      All-push (IsWithin new) ps piece within c.in_ok-put.ensures.within,
      map_push (entry_of new) ps piece ∙ (λ i. before i ++ c.in_ok-put.ensures.entry i ∷ [])
          ∙ sym (take_more entries at entry here ∙ ap (λ e. take at entries ++ e ∷ []) (sym c.entry-item.is)),
    )
