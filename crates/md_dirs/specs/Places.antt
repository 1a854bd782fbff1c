-- The places of a block of files.
use Rattle.std.specs.Prelude.{ℕ, zero, suc, List, [], ◌∷◌, Option, Some, None}
use Rattle.md_dirs.specs.declared.files.Kept.{Kept}

-- so many places: those of a list first, and behind its end none has a file
abbrev pub padded : {X : Type 0} → ℕ → List (Option X) → List (Option X)
padded zero slots = []
padded (suc n) [] = None ∷ padded n []
padded (suc n) (slot ∷ slots) = slot ∷ padded n slots

-- the 64 places of a block. A block that keeps none of them is one whose files are all gone
unfoldable pub places : List (Option Kept) → List (Option Kept)
places slots = padded 64 slots

-- how many files are there
abbrev pub there : List (Option Kept) → ℕ
there [] = 0
there (None ∷ slots) = there slots
there (Some kept ∷ slots) = suc (there slots)
