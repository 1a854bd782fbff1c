use Rattle.std.proofs.Common.{◌≡◌, ◌++◌, length}
use mathlib.Core.List.{IsPrefix}
use Rattle.md_core.specs.Mailbox.{mailbox_of}
use Rattle.md_core.specs.Runs.{Run, dirs_of}
use Rattle.md_store.specs.Listing.{ShowsLast}
use Rattle.md_text.specs.Folders.{names_of}
use Rattle.md_runs.specs.Threading.{folders_text}
use Rattle.md_runs.proofs.threads.listings.push_listings.Given as goal

-- While the pass is told of nothing, the text so far and what is left are the whole.
abbrev pub invariant-loop-left : goal.invariant-loop-left
invariant-loop-left g l = record {
  held : IsPrefix l.fn.pass.history l.pass.history;
  last : length l.pass.history ≡ length l.fn.pass.history → (r : Run) → ShowsLast g.J.Naming.opening l.pass.history r →
      l.text.items ++ folders_text (mailbox_of (dirs_of r)) l.folder (names_of l.left)
      ≡ l.fn.text.items ++ folders_text (mailbox_of (dirs_of r)) 0 (names_of l.names);
}

abbrev pub decreases-loop-left : goal.decreases-loop-left
decreases-loop-left g l = length l.left
