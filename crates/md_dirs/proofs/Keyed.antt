-- The keys of rows.
use Rattle.std.proofs.Common.{ℕ, ◌≡◌, List, ap, sym, ◌∙◌}
use Rattle.md_dirs.specs.Keys.{IsKeyOf, key_from}
use Rattle.md_dirs.proofs.NameRows.{Row}

-- equal numbers and names
pub as-key : {j k : ℕ} {s t : List ℕ} → j ≡ k → s ≡ t → IsKeyOf k t → IsKeyOf j s
as-key number name is = record { key = number ∙ is.key ∙ ap (key_from 16) (sym name); bytes = rw name is.bytes }

abbrev pub name-of : Row → List ℕ
name-of row = row.0
