use Rattle.std.proofs.Common.{◌<◌, ◌++◌, ◌∷◌, [], ◌∙◌, arith, sym, ap, take, map, length}
use Rattle.std.proofs.lemmas.List.{take_more, get_or-map, length-map}
use Rattle.md_dirs.specs.declared.paths.Place.TheVariants.{Tmp}
use Rattle.md_listing.specs.declared.owned.Piece.{Piece}
use Rattle.md_listing.specs.Rows.{entry_of}
use Rattle.md_listing.proofs.owned.Owned.lent.Goals as goal

pub loop-piece-preserved : goal.loop-piece-preserved
loop-piece-preserved c =
    let ps = c.self.inside.pieces.items in
    let one = entry_of c.self.inside.text.items in
    let at = c.loop-piece.piece-index in
    let none : Piece = record { start = 0; middle = 0; unique = 0; end = 0; size = 0; place = Tmp } in
    let here : at < length ps = rw (← c.deref-piece-items.ensures.value) c.loop-piece-test.true in
    let long = length-map ps one in
    rw (c.in_ok-push.ensures.items, c.loop-piece.invariant, c.lent.ensures, ← c.self.view_is, c.deref.ensures.value, c.deref-piece-items.ensures.value)
    (sym (take_more (map one ps) at (one none) (omega (arith, here, long)) ∙ ap (λ e. take at (map one ps) ++ e ∷ []) (get_or-map one ps at none (one none) here)))
