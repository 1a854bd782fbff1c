use Rattle.std.proofs.Common.{◌≡◌, map, take}
use Rattle.md_core.specs.Mailbox.{mailbox_of}
use Rattle.md_core.specs.Runs.{dirs_of}
use Rattle.md_index.specs.Index.{indexed_of}
use Rattle.md_runs.specs.Indexes.{indexed_in}
use Rattle.md_runs.proofs.indexing.workers.messages.Given as goal

abbrev pub invariant-loop-entry : goal.invariant-loop-entry
invariant-loop-entry g l =
    map indexed_of l.all.items ≡ map (indexed_in (mailbox_of (dirs_of l.world))) (take l.entry-index l.entries)
