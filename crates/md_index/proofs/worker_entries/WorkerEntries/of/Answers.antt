use Rattle.std.proofs.Common.{All, subst, sym}
use Rattle.md_index.specs.Index.{IsBrought}
use Rattle.md_index.proofs.worker_entries.WorkerEntries.of.Goals as goal

pub invariant_of-result : goal.invariant_of-result
invariant_of-result c = subst (All (IsBrought c.args.messages.now)) (sym c.from.ensures.0) c.requires
