use Rattle.std.proofs.Common.{All}
use Rattle.crossbeam_deque.specs.Handles.{IsPassOf, stealer_deque}
use Rattle.md_index.specs.Index.{IsBrought}
use Rattle.md_index.proofs.worker.work.Given as goal

abbrev pub invariant-loop : goal.invariant-loop
invariant-loop g l = IsPassOf (stealer_deque l.thief) l.seat × All (IsBrought l.messages) l.all.items
