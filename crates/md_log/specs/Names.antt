-- The names of folders, files and messages, which a log writes with escapes.
use Rattle.std.specs.Prelude.{ℕ, Bool, true, not, ◌&&◌, ◌||◌, ◌==◌, List, [], ◌∷◌, ◌++◌, length, nat_le, nat_lt, codes, Some, None, Result, Ok, Err, ok_or}
use Rattle.std.specs.List.{list_any, slice_split}
use Rattle.std.specs.Str.{bytes_eq}
use Rattle.md_name.specs.Names.{begins_with_dot, is_colon}
use Rattle.md_log.specs.declared.error.LineFault.{LineFault}
use Rattle.md_log.specs.declared.error.LineFault.TheVariants.{BadLine, BadEscape, BadName}
use Rattle.md_text.specs.Bind.{◌>>=◌, require}
use Rattle.md_text.specs.Words.{Rest, is_space}
use Rattle.md_text.specs.Escapes.{unescaped}

-- POSIX, 3.169: a file's name has neither a slash nor NUL
abbrev pub is_barred : ℕ → Bool
is_barred b = b == 47 || b == 0

-- a file can have the name: 1 to 255 bytes, no slash, no NUL, and neither `.` nor `..`
unfoldable pub is_name : List ℕ → Bool
is_name name =
    nat_lt 0 (length name) && nat_le (length name) 255 && not (bytes_eq name (codes ".") || bytes_eq name (codes ".."))
    && not (list_any is_barred name)

-- the name that a word spells
unfoldable pub name_of : List ℕ → Result (List ℕ) LineFault
name_of word = do
  name ← ok_or (unescaped true word) BadEscape
  _ ← require (is_name name) BadName
  Ok name

-- the unique name that a word spells: a name with no colon, and no dot in front
unfoldable pub unique_name_of : List ℕ → Result (List ℕ) LineFault
unique_name_of word = do
  name ← name_of word
  _ ← require (not (begins_with_dot name) && not (list_any is_colon name)) BadName
  Ok name

-- names before those that are read
abbrev pub after_names : List (List ℕ) → Result (List (List ℕ)) LineFault → Result (List (List ℕ)) LineFault
after_names front read = read >>= (λ names. Ok (front ++ names))

abbrev pub nonempty_name_of : List ℕ → Result (List ℕ) LineFault
nonempty_name_of [] = Err BadLine
nonempty_name_of (b ∷ word) = name_of (b ∷ word)

-- the names that words spell
unfoldable pub names_of : List (List ℕ) → Result (List (List ℕ)) LineFault
names_of [] = Ok []
names_of (word ∷ words) = nonempty_name_of word >>= (λ name. after_names (name ∷ []) (names_of words))

-- the names in the rest of a line
unfoldable pub names_at : Rest → Result (List (List ℕ)) LineFault
names_at None = Ok []
names_at (Some text) = names_of (slice_split is_space text)
