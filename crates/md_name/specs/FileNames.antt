-- Names of files, in place or not.
use Rattle.std.specs.Prelude.{ℕ, List}
use Rattle.md_name.specs.declared.file_name.Room.{Room}
use Rattle.md_name.specs.declared.file_name.Room.TheVariants.{Short, Long}

-- the bytes of a name, wherever they are
abbrev pub room_bytes : Room → List ℕ
room_bytes (Short name) = name
room_bytes (Long name) = name
