use Rattle.std.proofs.Common.{◌≡◌, ◌≤◌, length, take, drop}
use Rattle.md_ffi.specs.Records.{Answered}
use Rattle.md_ffi.proofs.calls.run.Given as goal

-- so many calls have their answers, and the rest of the answers is as it was
abbrev pub invariant-loop-left : goal.invariant-loop-left
invariant-loop-left l = record {
  answered : Answered l.now (take l.done l.answers) l.fn.records l.fn.world l.left l.world;
  kept : drop l.done l.answers ≡ drop l.done l.fn.answers;
  within : l.done ≤ length l.fn.answers;
}

-- each record takes bytes
abbrev pub decreases-loop-left : goal.decreases-loop-left
decreases-loop-left l = length l.left
