-- Where the row of a key is among rows in order, or where it would go.
use Rattle.std.specs.Prelude.{ℕ, ◌≡◌, ◌<◌, ◌≤◌, ◌+◌, List, ◌∷◌, Some, None, not, length, drop, slice_set, insert, remove}
use Rattle.std.specs.declared.cmp.Ordering.{Ordering}
use Rattle.std.specs.Ordering.{eq_by_cmp}
use Rattle.std.specs.FinMap.{find}
use Rattle.std.specs.FinMap.Entries.{put, where_key}

-- the row of the key is at i
pub record IsAt {K : Type 0} (R : K → K → Ordering) (rows : List (K × ℕ)) (p : K) (i : ℕ) : Type 0 where
  pub within : i < length rows
  pub found : (file : ℕ) × (drop i rows ≡ (p, file) ∷ drop (i + 1) rows) × (find R p rows ≡ Some file)
  pub replaced : (file : ℕ) → put R p file rows ≡ slice_set rows i (p, file)
  pub taken_out : where_key R (λ q. not (eq_by_cmp R p q)) rows ≡ remove rows i

-- the key is not there, and its row would go to i
pub record IsGap {K : Type 0} (R : K → K → Ordering) (rows : List (K × ℕ)) (p : K) (i : ℕ) : Type 0 where
  pub within : i ≤ length rows
  pub absent : find R p rows ≡ None
  pub placed : (file : ℕ) → put R p file rows ≡ insert rows i (p, file)
