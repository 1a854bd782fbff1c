use Rattle.std.proofs.Common.{length}
use Rattle.md_ffi.specs.Files.{AreFiles}
use Rattle.md_ffi.proofs.files.read_files.Given as goal

-- the files so far are those of the records before what is left
abbrev pub invariant-loop-left : goal.invariant-loop-left
invariant-loop-left l = AreFiles l.files.items l.fn.records l.left

-- each record takes bytes
abbrev pub decreases-loop-left : goal.decreases-loop-left
decreases-loop-left l = length l.left
