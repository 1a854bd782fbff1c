use Rattle.std.proofs.Common.{refl}
use Rattle.md_watch.proofs.Remembering.{begins-none}
use Rattle.md_watch.proofs.memory.Memory.new.Goals as goal

pub returns : goal.returns
returns c = begins-none _ refl c.new.ensures c.new-2.ensures.counts c.new-2.ensures.spells c.new-3.ensures c.new-4.ensures c.new-5.ensures
