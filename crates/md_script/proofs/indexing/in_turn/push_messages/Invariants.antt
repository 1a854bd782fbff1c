use Rattle.std.proofs.Common.{◌≡◌, ◌++◌, take}
use Rattle.std.specs.List.{flat_map}
use Rattle.md_core.specs.Mailbox.{mailbox_of}
use Rattle.md_core.specs.Runs.{dirs_of}
use Rattle.md_script.specs.Indexing.{message_text}
use Rattle.md_script.proofs.indexing.in_turn.push_messages.Given as goal

abbrev pub invariant-loop-entry : goal.invariant-loop-entry
invariant-loop-entry g l =
    l.out.items ≡ l.fn.out.items ++ flat_map (message_text (mailbox_of (dirs_of l.world)) l.name) (take l.entry-index l.entries)
