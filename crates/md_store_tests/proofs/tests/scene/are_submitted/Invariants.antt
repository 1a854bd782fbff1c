use Rattle.md_store.specs.Locks.{IsFresh}
use Rattle.md_store_tests.proofs.tests.scene.are_submitted.Given as goal

abbrev pub invariant-loop-row : goal.invariant-loop-row
invariant-loop-row l = IsFresh l.world
