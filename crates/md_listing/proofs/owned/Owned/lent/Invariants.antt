use Rattle.std.proofs.Common.{◌≡◌, take}
use Rattle.md_listing.proofs.owned.Owned.lent.Given as goal

abbrev pub invariant-loop-piece : goal.invariant-loop-piece
invariant-loop-piece l = l.all.items ≡ take l.piece-index l.self
