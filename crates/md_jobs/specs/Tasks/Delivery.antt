-- A delivery of a body, in pieces of so many bytes, by way of a file in tmp.
use Rattle.std.specs.Prelude.{ℕ, List}
use Rattle.md_dirs.specs.declared.paths.Path.{Path}
pub use Rattle.md_jobs.specs.declared.deliver.Stage.{Stage}
pub use Rattle.md_jobs.specs.declared.deliver.Stage.TheVariants.{Start, Writing, Linked, Undo}

-- its path in tmp, the body, the most bytes of a piece, and how far it has come
pub record Delivery : Type 0 where
  pub tmp : Path
  pub body : List ℕ
  pub chunk : ℕ
  pub stage : Stage
