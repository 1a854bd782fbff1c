-- An errand on the message of a unique name.
use Rattle.std.specs.Prelude.{ℕ, List}
use Rattle.md_dirs.specs.declared.paths.Place.{Place}
use Rattle.md_dirs.specs.declared.rows.Row.{Row}
use Rattle.md_jobs.specs.declared.purpose.Purpose.{Purpose}

-- How far it has come: the message is looked for in a place, or its row was found in a place and is acted on. So many tries are left, with
-- this one.
pub data Stage : Type 0 where
  Look : (place : Place) (tries : ℕ) → Stage
  Act : (place : Place) (row : Row) (tries : ℕ) → Stage

-- where it looks, for which message and what for, and how far it has come
pub record Errand : Type 0 where
  pub folder : ℕ
  pub unique : List ℕ
  pub purpose : Purpose
  pub stage : Stage
