use Rattle.memchr.specs.Find.{Nowhere, Passes}
use Rattle.md_name.proofs.blocks.first_of_few.Given as goal

abbrev pub invariant-loop-at : goal.invariant-loop-at
invariant-loop-at g l = Nowhere (Passes g.W.Wanted.wanted l.bytes) 0 l.at
