-- The values that definitions of histories speak of.
pub use Rattle.md_dirs.specs.State.{State, file_at, file_by}
pub use Rattle.md_dirs.specs.declared.paths.File.{File}
pub use Rattle.md_dirs.specs.declared.paths.Path.{Path}
pub use Rattle.md_dirs.specs.declared.paths.Place.{Place}
pub use Rattle.md_dirs.specs.declared.paths.Place.TheVariants.{Tmp, New, Cur}
pub use Rattle.md_log.specs.declared.clause.Clause.{Clause}
pub use Rattle.md_log.specs.declared.line.Call.{Call}
pub use Rattle.md_log.specs.declared.line.Deed.{Deed}
pub use Rattle.md_log.specs.declared.line.Naming.{Naming}
pub use Rattle.md_log.specs.declared.line.Reply.{Reply}
pub use Rattle.md_log.specs.declared.line.Said.{Said}
pub use Rattle.md_log.specs.declared.line.Step.{Step}
