use Rattle.std.proofs.Common.{ℕ, ◌≡◌, ◌||◌, List, take}
use Rattle.md_core.proofs.Values.{list_any, bytes_eq, is_among}
use Rattle.md_core.proofs.world.looking.names.use_tmp.Given as goal

abbrev pub invariant-loop-row : goal.invariant-loop-row
invariant-loop-row g l =
    (u : List ℕ) → is_among u l.names ≡ (list_any (λ r. bytes_eq r.name u) (take l.row l.rows.items) || is_among u l.fn.names)
