-- The messages that words name.
use Rattle.std.specs.Prelude.{ℕ, Bool, not, ◌&&◌, ◌||◌, nat_eq, List, length, drop, Option, None, Some, if◌then◌else◌, codes}
use Rattle.std.specs.List.{list_any, starts_with}
use Rattle.md_dirs.specs.declared.paths.Place.{Place}
use Rattle.md_dirs.specs.declared.paths.Place.TheVariants.{New, Cur}
use Rattle.md_name.specs.Names.{is_slash, is_terminator, is_message_name, unique_of}
use Rattle.md_maildirs.specs.declared.key.Key.{Key}

-- a message: its unique name, where it is said to be, and its whole name
pub record Named : Type 0 where
  pub unique : List ℕ
  pub place : Option Place
  pub name : List ℕ

-- what a key shows
abbrev pub key_view : Key → Named
key_view key = record { unique = key.unique.now; place = key.place; name = key.name.now }

-- whether a name is a message's and one of a file
unfoldable pub is_named : List ℕ → Bool
is_named name = is_message_name name && not (list_any (λ b. is_slash b || is_terminator b) name)

-- the message of such a name
abbrev pub named : Option Place → List ℕ → Option Named
named place name = if is_named name then Some (record { unique = unique_of name; place = place; name = name }) else None

-- what stands behind the path of a maildir: `/new/` or `/cur/` and a name; or else the whole word is a name
abbrev pub within : List ℕ → List ℕ → Option Named
within word rest =
    if starts_with nat_eq rest (codes "/new/") then named (Some New) (drop 5 rest)
    else (if starts_with nat_eq rest (codes "/cur/") then named (Some Cur) (drop 5 rest) else named None word)

-- The message that a word names: by its path, which is the maildir's, `/new/` or `/cur/` and a name, or by a name alone.
abbrev pub key_of : List ℕ → List ℕ → Option Named
key_of maildir word =
    if starts_with nat_eq word maildir then within word (drop (length maildir) word) else named None word
