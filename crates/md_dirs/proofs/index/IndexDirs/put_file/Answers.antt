use Rattle.std.proofs.Common.{◌∙◌, sym}
use Rattle.md_dirs.specs.declared.paths.File.{File}
use Rattle.md_dirs.specs.declared.image.ImageFile.{ImageFile}
use Rattle.md_dirs.proofs.Hashed.{counted-made, absent}
use Rattle.md_dirs.proofs.index.IndexDirs.put_file.Goals as goal

-- the file as it is made
abbrev made_of : ImageFile → File
made_of file = record { bytes = file.bytes; stamp = file.stamp }

pub invariant_of-self-2 : goal.invariant_of-self-2
invariant_of-self-2 c =
    let names = rw c.if-not-branch.false at c.in_ok-add_file.ensures.names in
    let slots = rw c.if-not-branch.false at c.in_ok-add_file.ensures.slots in
    let none = absent _ (sym c.in_ok-add_file.ensures.new ∙ c.if-not-branch.false) in
    rw (names, slots) (counted-made _ _ _ c.self.invariant c.args.file.path (made_of c.args.file) c.if-file-self.false none)
