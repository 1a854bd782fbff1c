use Rattle.std.proofs.Common.{◌≡◌, false, take}
use Rattle.std.specs.List.{list_any}
use Rattle.md_view.specs.Held.{has_unique}
use Rattle.md_view.proofs.names.fits.unique_exists.Given as goal

abbrev pub invariant-loop-lists : goal.invariant-loop-lists
invariant-loop-lists g l = list_any (has_unique l.unique) (take l.lists-index l.folders) ≡ false
