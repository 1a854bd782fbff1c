use Rattle.std.proofs.Common.{◌≡◌, take}
use Rattle.md_view.proofs.names.folder.all_again.Given as goal

abbrev pub invariant-loop-folder : goal.invariant-loop-folder
invariant-loop-folder g l = l.copies.items ≡ take l.folder-index l.folders
