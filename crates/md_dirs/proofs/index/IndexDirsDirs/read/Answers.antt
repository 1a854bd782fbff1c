use Rattle.std.proofs.Common.{sym}
use Rattle.md_dirs.specs.Path.{path_of}
use Rattle.md_dirs.proofs.Hashed.{slot-number}
use Rattle.md_dirs.proofs.index.IndexDirsDirs.read.Goals as goal

pub get-requires : goal.get-requires
get-requires c =
    slot-number _ _ _ c.self.invariant (path_of c.args.folder c.args.place c.args.name.now) c.in_ok-file.file
    (sym c.in_ok-file.ensures)
