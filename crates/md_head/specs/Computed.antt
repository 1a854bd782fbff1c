-- The same as functions, which compute the one answer that the relations allow.
use Rattle.std.specs.Prelude.{ℕ, ◌&&◌, ◌==◌, List, [], ◌∷◌, ◌++◌, take, drop, nat_lt, slice_index, Option, Some, None, if◌then◌else◌}
use Rattle.std.specs.List.{prefix_len, concat}
use Rattle.std.specs.Option.{option_or}
use Rattle.std.specs.Str.{str_eq_ignore_ascii_case}
use Rattle.md_head.specs.Header.{is_blank, is_name_byte, header_section, is_continuation, Group}

-- the lines in front of all groups, and the groups
pub record Grouped : Type 0 where
  pub front : List (List ℕ)
  pub groups : List Group

-- a line in front of lines that are grouped: a continuation of nothing yet, or a group with those in front
abbrev pub with_line : List ℕ → Grouped → Grouped
with_line line g =
    if is_continuation line then record { front = line ∷ g.front; groups = g.groups }
    else record { front = []; groups = record { first = line; continuations = g.front } ∷ g.groups }

-- the lines as groups
unfoldable pub grouped : List (List ℕ) → Grouped
grouped [] = record { front = []; groups = [] }
grouped (line ∷ lines) = with_line line (grouped lines)

-- the name and the body of a field line
unfoldable pub field_of : List ℕ → Option (List ℕ × List ℕ)
field_of line =
    let n = prefix_len is_name_byte line in
    let rest = drop n line in
    let body = drop (prefix_len is_blank rest) rest in
    if nat_lt 0 n && slice_index body 0 == 58 then Some (take n line, drop 1 body) else None

-- without white space in front
unfoldable pub trimmed_front : List ℕ → List ℕ
trimmed_front [] = []
trimmed_front (b ∷ bytes) = if is_blank b then trimmed_front bytes else b ∷ bytes

-- a byte before what is left of the bytes after it
abbrev pub onto_trimmed : ℕ → List ℕ → List ℕ
onto_trimmed b [] = if is_blank b then [] else b ∷ []
onto_trimmed b (c ∷ bytes) = b ∷ c ∷ bytes

-- without white space at the end
unfoldable pub trimmed_end : List ℕ → List ℕ
trimmed_end [] = []
trimmed_end (b ∷ bytes) = onto_trimmed b (trimmed_end bytes)

-- without white space at both ends
abbrev pub trimmed : List ℕ → List ℕ
trimmed bytes = trimmed_end (trimmed_front bytes)

-- the value of a field with that body and those continuations, if its name is the one that is looked for
abbrev pub value_if : List ℕ → List (List ℕ) → Option (List ℕ × List ℕ) → Option (List ℕ)
value_if name continuations None = None
value_if name continuations (Some (found, body)) =
    if str_eq_ignore_ascii_case found name then Some (trimmed (body ++ concat continuations)) else None

-- the value of a group, if it is a field of that name
unfoldable pub value_of : List ℕ → Group → Option (List ℕ)
value_of name g = value_if name g.continuations (field_of g.first)

-- the value of the first group that is a field of that name
unfoldable pub first_value : List ℕ → List Group → Option (List ℕ)
first_value name [] = None
first_value name (g ∷ groups) = option_or (value_of name g) (first_value name groups)

-- the groups of a text's header section
unfoldable pub groups_of : List ℕ → List Group
groups_of text = (grouped (header_section text)).groups

-- the value of the first field of that name in a text's header section
abbrev pub field_value : List ℕ → List ℕ → Option (List ℕ)
field_value name text = first_value name (groups_of text)
