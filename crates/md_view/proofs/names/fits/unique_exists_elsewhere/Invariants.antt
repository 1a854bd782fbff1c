use Rattle.std.proofs.Common.{ℕ, ◌≡◌, ◌<◌, IsSome}
use Rattle.md_dirs.specs.declared.paths.Place.{Place}
use Rattle.md_view.specs.Held.{entry_with, listed_in}
use Rattle.md_view.proofs.names.fits.unique_exists_elsewhere.Given as goal

-- none so far
abbrev pub invariant-loop-at : goal.invariant-loop-at
invariant-loop-at g l = (k : ℕ) (p : Place) → k < l.at → (k ≡ l.folder → p ≡ l.place → ⊥) → IsSome (entry_with l.unique (listed_in l.folders k p)) → ⊥
