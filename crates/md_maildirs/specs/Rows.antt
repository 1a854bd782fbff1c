-- The lines of a listing.
use Rattle.std.specs.Prelude.{ℕ, ℤ, ◌≡◌, Bool, false, List, [], ◌∷◌, ◌++◌, Option, None, Some, option_and_then, if◌then◌else◌, codes}
use Rattle.std.specs.Fmt.{decimal, signed_decimal}
use Rattle.md_dirs.specs.declared.paths.Place.{Place}
use Rattle.md_name.specs.Letters.{Set, spelling}
use Rattle.md_name.specs.Names.{split_of, flags_of, unique_of, is_message_name}
use Rattle.md_head.specs.declared.shown.Summary.{Summary}
use Rattle.md_maildirs.specs.declared.row.Headers.{Headers}
use Rattle.md_maildirs.specs.declared.row.Shape.{Shape}
use Rattle.md_system.specs.Flaws.{kind_text}
use Rattle.md_system.specs.declared.flaw.Flaw.{Flaw}
use Rattle.md_system.specs.declared.listed.Listed.{Listed}
use Rattle.md_command.specs.Escapes.{escaped, json_string}
use Rattle.md_text.specs.Places.{place_text}

-- the flags of a name, if its info has any
abbrev pub flags_in : List ℕ → Option Set
flags_in name = option_and_then (λ parts. flags_of parts.1) (split_of name)

-- the letters of a set in ASCII order, and a hyphen for the empty set
abbrev pub letters_text : List ℕ → List ℕ
letters_text [] = codes "-"
letters_text (c ∷ letters) = c ∷ letters

-- the column of flags
abbrev pub flags_text : Option Set → List ℕ
flags_text None = codes "?"
flags_text (Some flags) = letters_text (spelling flags)

-- a tab
abbrev pub tab : List ℕ
tab = 9 ∷ []

-- the columns of a message: its place, its flags and its unique name
abbrev pub columns_text : Place → List ℕ → List ℕ
columns_text place name = place_text place ++ tab ++ flags_text (flags_in name) ++ tab ++ escaped (unique_of name)

-- the column of a value
abbrev pub value_text : Option (List ℕ) → List ℕ
value_text None = codes "-"
value_text (Some value) = escaped value

-- a second since 1970, or what stands for none
abbrev pub seconds_text : Option ℤ → List ℕ → List ℕ
seconds_text None none = none
seconds_text (Some seconds) none = signed_decimal seconds

-- the columns of headers: the size, the second of the date, the sender and the subject
abbrev pub header_columns_text : Option Headers → List ℕ
header_columns_text None = codes "\t-\t-\t-\t-"
header_columns_text (Some headers) =
    tab ++ decimal headers.size ++ tab ++ seconds_text headers.summary.seconds (codes "-")
    ++ tab ++ value_text headers.summary.from ++ tab ++ value_text headers.summary.subject

-- the flags of an object of JSON
abbrev pub json_flags_text : Option Set → List ℕ
json_flags_text None = codes "null"
json_flags_text (Some flags) = codes "\"" ++ spelling flags ++ codes "\""

-- the fields of a message in an object of JSON, and the brace in front of them
abbrev pub fields_text : Place → List ℕ → List ℕ
fields_text place name =
    codes "{\"place\":\"" ++ place_text place ++ codes "\",\"flags\":" ++ json_flags_text (flags_in name)
    ++ codes ",\"unique\":" ++ json_string (unique_of name) ++ codes ",\"name\":" ++ json_string name

-- a value in an object of JSON
abbrev pub field_text : Option (List ℕ) → List ℕ
field_text None = codes "null"
field_text (Some value) = json_string value

-- what begins a field, and its value
abbrev pub named_field : List ℕ → Option (List ℕ) → List ℕ
named_field begins value = begins ++ field_text value

-- the fields of a size and the second of a date
abbrev pub number_fields_text : ℕ → Option ℤ → List ℕ
number_fields_text size seconds = codes ",\"size\":" ++ decimal size ++ codes ",\"date\":" ++ seconds_text seconds (codes "null")

-- the fields of the values of headers
abbrev pub value_fields_text : Summary → List ℕ
value_fields_text summary =
    named_field (codes ",\"from\":") summary.from ++ named_field (codes ",\"subject\":") summary.subject
    ++ named_field (codes ",\"message_id\":") summary.message_id

-- the fields of headers
abbrev pub header_fields_text : Headers → List ℕ
header_fields_text headers = number_fields_text headers.size headers.summary.seconds ++ value_fields_text headers.summary

-- the fields of headers that are there
abbrev pub more_fields_text : Option Headers → List ℕ
more_fields_text None = []
more_fields_text (Some headers) = header_fields_text headers

-- a message as an object of JSON, in a line
abbrev pub object_text : Place → List ℕ → Option Headers → List ℕ
object_text place name headers = fields_text place name ++ more_fields_text headers ++ codes "}\n"

-- the path of a message of a maildir, by its place and name
abbrev pub path_text : List ℕ → Place → List ℕ → List ℕ
path_text maildir place name = maildir ++ codes "/" ++ place_text place ++ codes "/" ++ name

-- a message in columns, in a line
abbrev pub line_text : Bool → Place → List ℕ → Option Headers → List ℕ
line_text with_headers place name headers =
    columns_text place name ++ (if with_headers then header_columns_text headers else []) ++ codes "\n"

-- the line of a message
abbrev pub message_text : Shape → Place → List ℕ → Option Headers → List ℕ
message_text shape place name headers =
    if shape.is_json then object_text place name headers else line_text shape.with_headers place name headers

-- a flaw in a line: what it is, the place and the name
abbrev pub flaw_text : Flaw → List ℕ
flaw_text f = kind_text f.kind ++ tab ++ place_text f.place ++ tab ++ escaped f.name ++ codes "\n"

-- the line of a name that a reading showed, if it is a message's
abbrev pub listed_text : Shape → Listed → Option Headers → List ℕ
listed_text shape m headers = if is_message_name m.name then message_text shape m.place m.name headers else []

-- What is shown has that line more, with what the headers say where they are wanted and were read.
pub record ShowsLine (shape : Shape) (m : Listed) (old new : List ℕ) : Type 0 where
  pub headers : Option Headers
  pub wanted : shape.with_headers ≡ false → headers ≡ None
  pub line : new ≡ old ++ listed_text shape m headers
