use Rattle.std.proofs.Common.{ap, ◌∙◌, sym}
use Rattle.md_store.specs.Publishing.{knower}
use Rattle.md_store.proofs.opening.seats.Goals as goal

pub seat-requires-clause-seat : goal.seat-requires-clause-seat
seat-requires-clause-seat g c = let i = c.loop-made.invariant in i.seat ∙ (c.requires.seat ∙ ap (λ s. knower g.J.Naming.opening s.value) (sym i.shown))
