-- Flags, as a word spells them.
use Rattle.std.specs.Prelude.{ℕ, List, Option, Some, None, if◌then◌else◌, codes}
use Rattle.std.specs.List.{list_all}
use Rattle.std.specs.FinSet as set
use Rattle.std.specs.Str.{bytes_eq}
use Rattle.md_name.specs.Letters.{Set, is_letter}

-- a hyphen is no flags; other words are letters, in any order and perhaps repeated
unfoldable pub flags_in : List ℕ → Option Set
flags_in word =
    if bytes_eq word (codes "-") then Some set.empty
    else (if list_all is_letter word then Some (set.from_list word) else None)
