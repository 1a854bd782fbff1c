use Rattle.std.proofs.Common.{◌≡◌, ◌++◌, ◌∷◌, [], ◌∙◌, ℕ, List, sym, ap, subst, length, arith}
use Rattle.std.proofs.lemmas.List.{length-map}
use Rattle.std.specs.Global.{Vec}
use Rattle.md_text.specs.Folders.{ArePlaces, names_of}
use Rattle.md_text.proofs.Numbered.{noted}
use Rattle.md_text.proofs.folders.Folders.add.Goals as goal

pub invariant_of-self-2 : goal.invariant_of-self-2
invariant_of-self-2 c =
    let names = c.self.inside.names.items in
    let held = c.in_ok-held.held in
    let all : c.push_reserved.new.self.items ≡ names ++ held ∷ [] =
    c.push_reserved.ensures.items ∙ ap (λ xs. xs ++ held ∷ []) c.reserve.ensures.items in
    let count : c.count-at.result ≡ length (names_of names) = c.count-at.ensures ∙ ap (λ (xs : List (List ℕ)). length xs) (sym c.self.view_is) in
    let long : c.count-at.result ≡ length names = count ∙ length-map names (λ (n : Vec ℕ). n.items) in (
      omega (arith, c.push_reserved.ensures.len, c.reserve.ensures.len, c.self.inside.names.ok.0, long),
      subst (λ xs. ArePlaces xs c.note_place.new.places.entries) (sym all)
          (noted names held c.args.name.now c.self.inside.places.entries c.note_place.new.places.entries c.count-at.result c.self.invariant.1
          c.in_ok-held.ensures.items long c.in_ok-note_place.ensures.places),
    )
