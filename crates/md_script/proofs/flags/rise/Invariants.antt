use Rattle.std.proofs.Common.{ℕ, suc, ◌<◌, get_or}
use Rattle.md_script.proofs.flags.rise.Given as goal

abbrev pub invariant-loop-at : goal.invariant-loop-at
invariant-loop-at l = (k : ℕ) → suc k < l.at → get_or l.text k 0 < get_or l.text (suc k) 0
