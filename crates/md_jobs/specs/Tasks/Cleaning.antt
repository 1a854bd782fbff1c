-- A clean of a folder.
use Rattle.std.specs.Prelude.{ℕ, List}

-- How far it has come: tmp is to be listed, or this name is to be taken away, and then the rest. So many files will be removed by then, if
-- none is gone before.
pub data Stage : Type 0 where
  Look : Stage
  Remove : (name : List ℕ) (rest : List (List ℕ)) (files : ℕ) → Stage

-- its folder, and how far it has come
pub record Cleaning : Type 0 where
  pub folder : ℕ
  pub stage : Stage
