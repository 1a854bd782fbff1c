use Rattle.std.proofs.Common.{ℕ, ◌≡◌, true, false}
use Rattle.md_core.specs.Quick.{AreBare}
use Rattle.md_core.proofs.world.looking.quick.only_folder.Given as goal

abbrev pub invariant-loop-folder : goal.invariant-loop-folder
invariant-loop-folder g l =
    let s = (g.D.Dirs.device l.dirs).state in
    (l.is_met ≡ true → AreBare s l.folder l.only) × (l.is_met ≡ false → (only : ℕ) → AreBare s l.folder only)
