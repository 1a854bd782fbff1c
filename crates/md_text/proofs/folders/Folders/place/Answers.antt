use Rattle.std.proofs.Common.{◌≡◌, ◌∙◌, sym}
use Rattle.md_text.specs.Folders.{place_of}
use Rattle.md_text.proofs.Numbered.{place_of-names_of}
use Rattle.md_text.proofs.folders.Folders.place.Goals as goal

pub returns-in_err-at : goal.returns-in_err-at
returns-in_err-at c =
    let held = rw c.deref.ensures.value at c.position.ensures.value ∙ place_of-names_of c.self.inside.names.items c.args.name.now in
    let place : c.position.result ≡ place_of c.args.self.now c.args.name.now = rw (← c.self.view_is) held in
    cc (c.in_err-at.was, c.from_residual.ensures, place)

pub returns : goal.returns
returns c =
    let held = rw c.deref.ensures.value at c.position.ensures.value ∙ place_of-names_of c.self.inside.names.items c.args.name.now in
    let place : c.position.result ≡ place_of c.args.self.now c.args.name.now = rw (← c.self.view_is) held in
    sym c.in_ok-at.was ∙ place

pub returns-then-len-gt-FEW : goal.returns-then-len-gt-FEW
returns-then-len-gt-FEW c = rw (← c.self.view_is) (c.place_by_hash.ensures ∙ c.self.invariant.1 c.args.name.now)
