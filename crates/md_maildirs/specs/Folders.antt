-- The names of folders of a Maildir++.
use Rattle.std.specs.Prelude.{ℕ, Bool, not, ◌&&◌, ◌==◌, nat_eq, List, length, codes}
use Rattle.std.specs.List.{list_any, starts_with}
use Rattle.md_name.specs.Names.{is_slash}

-- a name that is not empty, begins with no dot and holds no slash
abbrev pub is_folder : List ℕ → Bool
is_folder name = not (length name == 0) && not (starts_with nat_eq name (codes ".")) && not (list_any is_slash name)
