-- A name with the length of its unique part.
use Rattle.std.specs.Prelude.{ℕ, List, ◌≡◌, length}
use Rattle.md_name.specs.Names.{unique_of}
use Rattle.md_dirs.specs.NameKey.{held_bytes}
use Rattle.md_dirs.specs.declared.index.named.Parted.{Parted}
use Rattle.md_dirs.specs.declared.index.named.Parted.TheVariants.{Short, Held}

-- the bytes of the name, in place or held
abbrev pub parted_bytes : Parted → List ℕ
parted_bytes (Short name unique) = name
parted_bytes (Held name unique) = held_bytes name

-- it is known how many bytes the unique part has
abbrev pub IsParted : Parted → Type 0
IsParted (Short name unique) = unique ≡ length (unique_of name)
IsParted (Held name unique) = unique ≡ length (unique_of (held_bytes name))
