-- Rows of a directory that are lent together.
use Rattle.std.specs.Prelude.{ℕ, ◌≡◌, ◌<◌, List, length, take, drop}
use Rattle.md_dirs.specs.declared.rows.Row.{Row}

-- rows that are those of a directory from a position on, one after another: at least one, where there is one
pub record AreNext (all : List Row) (from : ℕ) (rows : List Row) : Type 0 where
  pub each : rows ≡ take (length rows) (drop from all)
  pub some : from < length all → 0 < length rows
