-- The body of a field as it is in a message, line ends among it, and the value that it gives.
use Rattle.std.specs.Prelude.{◌≡◌, ℕ, ◌<◌, Bool, false, true, List, ◌++◌, length, slice_index, Option, Some, None, IfSome, option_map, if◌then◌else◌}
use Rattle.std.specs.List.{AllPass, concat}
use Rattle.std.specs.Str.{str_eq_ignore_ascii_case}
use Rattle.md_head.specs.Header.{is_blank, is_some_line, lines_of, IsWholeLines, IsFieldLine}
use Rattle.md_head.specs.Scan.{IsOneGroup}
use Rattle.md_head.specs.Computed.{trimmed, field_value}
use Rattle.md_head.specs.declared.body.FieldBody.{FieldBody}

-- without its line ends (unfolding: RFC 5322, 2.2.3), and without the white space at both ends
unfoldable pub unfolded : List ℕ → List ℕ
unfolded folded = trimmed (concat (lines_of folded))

-- the value that a body and its continuations give
abbrev pub body_value : FieldBody → List ℕ
body_value body = unfolded body.folded.now

-- These bytes are the body of a text's first field of that name, as it is there: all after the colon up to the end of the
-- last continuation. In front of the field are whole lines of the header section, with no field of that name among them.
pub record IsFirstBody (text name folded : List ℕ) : Type 0 where
  pub before : List ℕ
  pub field : List ℕ
  pub behind : List ℕ
  pub parts : text ≡ before ++ (field ++ behind)
  pub lines_before : IsWholeLines before
  pub none_empty : AllPass is_some_line (lines_of before)
  pub is_first : field_value name before ≡ None
  pub found : List ℕ
  pub begins : IsFieldLine field found folded
  pub same_name : str_eq_ignore_ascii_case found name ≡ true
  pub goes_on : IsOneGroup field
  pub line_ends : 0 < length behind → IsWholeLines field
  pub over : is_blank (slice_index behind 0) ≡ false

-- What is found of a name in a text: its first field with the value of that, or nothing where the text has none.
pub record IsFirstField (text name : List ℕ) (found : Option FieldBody) : Type 0 where
  pub value : option_map body_value found ≡ field_value name text
  pub place : IfSome found (λ body. IsFirstBody text name body.folded.now)

-- the body that was found before, or else this one if it has the name
abbrev pub or_this : Option FieldBody → Bool → FieldBody → Option FieldBody
or_this (Some found) is_named body = Some found
or_this None is_named body = if is_named then Some body else None
