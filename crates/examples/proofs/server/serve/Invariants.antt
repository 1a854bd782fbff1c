use Rattle.md_store.specs.Locks.{IsFresh}
use Rattle.examples.proofs.server.serve.Given as goal

-- each round begins with a world that has had no call
abbrev pub invariant-loop-number : goal.invariant-loop-number
invariant-loop-number g l = IsFresh l.world
