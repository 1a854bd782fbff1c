-- The lines of a message's header section, and the fields that they are, in the words of RFC 5322.
-- A rule marked 'own' is this library's choice where RFC 5322 leaves one.
use Rattle.std.specs.Prelude.{◌≡◌, ℕ, ◌-◌, ◌<◌, Bool, false, not, ◌&&◌, ◌||◌, ◌==◌, nat_le, nat_lt, List, ◌∷◌, ◌++◌, length, slice_index, All}
use Rattle.std.specs.List.{AllPass, flat_map, take_while}
use Rattle.std.specs.Str.Lines.{lines}

-- White space: a space or a tab (RFC 5322, 2.2).
abbrev pub is_blank : ℕ → Bool
is_blank b = b == 32 || b == 9

-- A byte of a field's name: printable ASCII, but no colon (RFC 5322, 2.2).
abbrev pub is_name_byte : ℕ → Bool
is_name_byte b = nat_le 33 b && nat_le b 126 && not (b == 58)

-- the byte LF
abbrev pub is_line_feed : ℕ → Bool
is_line_feed b = b == 10

-- The lines of a text, as std cuts one: a line ends at LF, and one CR right before it belongs to the line's end
-- (RFC 5322, 2.1; LF alone is own). What follows the last LF is a line unless it is empty, and a CR in it is
-- a byte like any other (own).
unfoldable pub lines_of : List ℕ → List (List ℕ)
lines_of text = lines text

-- The text is empty or ends with a line feed.
abbrev pub IsWholeLines : List ℕ → Type 0
IsWholeLines text = 0 < length text → slice_index text (length text - 1) ≡ 10

-- whether a line isn't empty
abbrev pub is_some_line : List ℕ → Bool
is_some_line line = nat_lt 0 (length line)

-- The header section: the lines before the first empty one (RFC 5322, 2.1), or all where none is empty (own).
unfoldable pub header_section : List ℕ → List (List ℕ)
header_section text = take_while is_some_line (lines_of text)

-- A continuation is a line that begins with white space (folding: RFC 5322, 2.2.3).
abbrev pub is_continuation : List ℕ → Bool
is_continuation line = is_blank (slice_index line 0)

-- A line that is no continuation, and the continuations that follow it.
pub record Group : Type 0 where
  pub first : List ℕ
  pub continuations : List (List ℕ)

-- the lines of a group
abbrev pub group_lines : Group → List (List ℕ)
group_lines g = g.first ∷ g.continuations

-- a group's first line is no continuation, and the others are
pub record IsFolded (g : Group) : Type 0 where
  pub begins : is_continuation g.first ≡ false
  pub goes_on : AllPass is_continuation g.continuations

-- The lines are those in front, continuations of nothing, which are passed over (own), and then those of each group.
pub record IsGrouped (lines front : List (List ℕ)) (groups : List Group) : Type 0 where
  pub in_order : lines ≡ front ++ flat_map group_lines groups
  pub in_front : AllPass is_continuation front
  pub folded : All IsFolded groups

-- A field line: a name, a colon and a body (RFC 5322, 2.2), with white space before the colon where the sender kept
-- to the obsolete syntax (4.5).
pub record IsFieldLine (line name body : List ℕ) : Type 0 where
  pub spacing : List ℕ
  pub parts : line ≡ name ++ (spacing ++ 58 ∷ body)
  pub some_name : 0 < length name
  pub name_bytes : AllPass is_name_byte name
  pub spacing_blank : AllPass is_blank spacing
