use Rattle.md_dirs.proofs.Hashed.{counted-none}
use Rattle.md_dirs.specs.Slots.{slots_of}
use Rattle.md_dirs.proofs.index.IndexDirs.with_seed.Goals as goal

pub invariant_of-result : goal.invariant_of-result
invariant_of-result c = counted-none c.args.folders c.new.result (slots_of c.new-2.result) c.new.ensures c.new-2.ensures
