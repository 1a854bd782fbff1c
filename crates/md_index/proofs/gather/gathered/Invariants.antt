use Rattle.std.proofs.Common.{◌≡◌, ◌≤◌, length, map, take}
use Rattle.std.specs.Prelude.{vec_len, vec_capacity}
use Rattle.md_index.specs.Index.{indexed_of}
use Rattle.md_index.proofs.gather.gathered.Given as goal

abbrev pub invariant-loop-item : goal.invariant-loop-item
invariant-loop-item g l =
    (l.given ≡ l.fn.given) × (l.all.items ≡ map indexed_of (take l.item l.messages)) × (vec_len l.all ≡ l.item) ×
    (length l.messages ≤ vec_capacity l.all)
