use Rattle.std.proofs.Common.{ℕ, ◌≡◌, length}
use Rattle.md_judge.specs.Logs.{Log}
use Rattle.md_judge.specs.Placed.{HasWaiting}
use Rattle.md_judge.proofs.Placing.{IsPlacing}
use Rattle.md_judge.proofs.session.Session.judge_stretch.Given as goal

abbrev pub invariant-loop-place : goal.invariant-loop-place
invariant-loop-place l = record {
  placing : (number : ℕ) (log : Log) (w : HasWaiting number log l.fn.self)
      → IsPlacing number log (length w.order) l.fn.self.stretch l.at-items l.place l.self;
  begun : l.self.has_begun ≡ l.fn.self.has_begun;
}
