use Rattle.std.proofs.Common.{ℕ, ◌≡◌, ◌+◌, ◌-◌, vec_len}
use Rattle.md_dirs.specs.Index.{directory_at}
use Rattle.md_dirs.proofs.index.tree.make_directories.Given as goal

abbrev pub invariant-loop-alloc : goal.invariant-loop-alloc
invariant-loop-alloc l = (k : ℕ) → directory_at l.directories.items k ≡ directory_at l.fn.directories.items k

abbrev pub decreases-loop-alloc : goal.decreases-loop-alloc
decreases-loop-alloc l = l.number + 1 - vec_len l.directories
