-- The least of some names.
use Rattle.std.specs.Prelude.{ℕ, List, Bool, true, Option, Some, None, if◌then◌else◌}
use Rattle.std.specs.Borrow.{Bor}
use Rattle.std.specs.Ordering.{is_lt}
use Rattle.md_dirs.specs.Index.{name_cmp}
use Rattle.md_dirs.specs.Rows.{is_named}
use Rattle.md_dirs.specs.declared.index.least.Wanted.{Wanted}
use Rattle.md_dirs.specs.declared.index.least.Wanted.TheVariants.{Named, Behind, Any}

-- a row whose name was lent
abbrev pub lent_row : Bor (List ℕ) × ℕ → List ℕ × ℕ
lent_row r = (r.0.now, r.1)

-- whether a name is among those that are wanted
abbrev pub takes : Wanted → List ℕ → Bool
takes (Named unique) name = is_named unique.now name
takes (Behind before) name = is_lt (name_cmp before.now name)
takes Any name = true

-- the row of the lesser name, and of equal names the first
abbrev pub lesser : Option (List ℕ × ℕ) → List ℕ × ℕ → Option (List ℕ × ℕ)
lesser None row = Some row
lesser (Some before) row = if is_lt (name_cmp row.0 before.0) then Some row else Some before
