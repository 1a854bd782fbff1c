use Rattle.std.proofs.Common.{ℕ, ◌≡◌, ◌||◌, List}
use Rattle.md_used.specs.Used.{is_among}
use Rattle.md_used.proofs.used.NameSet.append.Given as goal

abbrev pub invariant-loop-key : goal.invariant-loop-key
invariant-loop-key l =
    (u : List ℕ) → (is_among u l.self-inside.names.keys || is_among u l.key-iterator) ≡ (is_among u l.fn.self || is_among u l.fn.more)
