use Rattle.std.proofs.Common.{ℕ, ◌≡◌, length, slice_get, Some}
use Rattle.md_core.specs.History.{names_of}
use Rattle.md_core.specs.Mailbox.{mailbox_of}
use Rattle.md_core.specs.Runs.{dirs_of}
use Rattle.md_dirs.specs.declared.paths.Place.TheVariants.{New, Cur}
use Rattle.md_view.specs.Held.{FolderLists}
use Rattle.md_listing.specs.Readings.{reading_of}
use Rattle.md_view.proofs.names.folder.all_of.Given as goal

abbrev pub invariant-loop-folder : goal.invariant-loop-folder
invariant-loop-folder g l = record {
  count : length l.folders.items ≡ l.folder;
  lists : (k : ℕ) (f : FolderLists) → slice_get l.folders.items k ≡ Some f
      → (f.in_new ≡ reading_of (names_of (mailbox_of (dirs_of l.world))) k New) × (f.in_cur ≡ reading_of (names_of (mailbox_of (dirs_of l.world))) k Cur);
}
