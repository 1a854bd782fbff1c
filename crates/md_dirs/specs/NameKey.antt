-- Names as keys of a hash table.
use Rattle.std.specs.Prelude.{ℕ, List}
use Rattle.md_dirs.specs.declared.name_key.Held.{Held}
use Rattle.md_dirs.specs.declared.name_key.Held.TheVariants.{Owned, Lent}
use Rattle.md_dirs.specs.declared.name_key.Kept.{Kept}
use Rattle.md_dirs.specs.declared.name_key.Kept.TheVariants.{Short, Held as In_held}

-- the bytes of a key, owned or lent
abbrev pub held_bytes : Held → List ℕ
held_bytes (Owned name) = name.items
held_bytes (Lent name) = name.now

-- the bytes of a key, in place or held
abbrev pub kept_bytes : Kept → List ℕ
kept_bytes (Short name) = name
kept_bytes (In_held held) = held_bytes held
