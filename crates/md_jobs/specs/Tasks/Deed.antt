-- The directory call by which an errand acts, with its paths.
use Rattle.md_dirs.specs.declared.paths.Path.{Path}

pub data Deed : Type 0 where
  Rename : (old new : Path) → Deed
  Link : (old new : Path) → Deed
  Unlink : (old : Path) → Deed
