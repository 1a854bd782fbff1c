-- The folders that a script may name.
use Rattle.std.specs.Prelude.{ℕ, Bool, not, ◌&&◌, ◌||◌, ◌==◌, List, length, nat_le, nat_lt, is_none}
use Rattle.std.specs.List.{list_any}
use Rattle.md_name.specs.Names.{begins_with_dot}
use Rattle.md_text.specs.Folders.{place_of}

-- the most folders of a script
abbrev pub most_folders : ℕ
most_folders = 64

-- the longest name of a folder, in bytes
abbrev pub longest_name : ℕ
longest_name = 100

-- a byte that no folder's name has: a slash, NUL, a carriage return
abbrev pub is_barred : ℕ → Bool
is_barred b = b == 47 || b == 0 || b == 13

-- whether a folder can be made under a name: it is short enough, has no such byte and no dot in front, and it is new;
-- and there is room for one more
abbrev pub can_add : List (List ℕ) → List ℕ → Bool
can_add folders name =
    nat_le (length name) longest_name && not (list_any is_barred name) && not (begins_with_dot name)
    && is_none (place_of folders name) && nat_lt (length folders) most_folders
