-- Bytes as a column of a line shows them, and a string of JSON.
use Rattle.std.specs.Prelude.{◌≡◌, ◌<◌, Option, Some, ℕ, Bool, false, not, ◌&&◌, ◌||◌, ◌==◌, ◌+◌, ◌/◌, ◌%◌, nat_lt, nat_le}
use Rattle.std.specs.Prelude.{List, [], ◌∷◌, ◌++◌, length, if◌then◌else◌, codes}
use Rattle.std.specs.List.{All, flat_map}
use Rattle.std.specs.Str.Lossy.{utf8_valid_len}

-- whether bytes are UTF-8
abbrev pub is_text : List ℕ → Bool
is_text bytes = utf8_valid_len bytes == length bytes

-- a digit of a byte
abbrev pub digit_of : ℕ → ℕ
digit_of n = if nat_lt n 10 then 48 + n else 87 + n

-- a byte by its two digits
abbrev pub hex : ℕ → List ℕ
hex b = digit_of (b / 16) ∷ digit_of (b % 16) ∷ []

-- whether a byte is a printed character of ASCII
abbrev pub is_printed : ℕ → Bool
is_printed b = nat_le 32 b && nat_le b 126

-- whether a byte and the next one are a control character from U+0080 to U+009F in UTF-8
abbrev pub is_control : ℕ → ℕ → Bool
is_control b next = b == 194 && nat_lt next 160

-- some two bytes are such a control character, where these come behind a byte
abbrev pub has_controls : ℕ → List ℕ → Bool
has_controls last [] = false
has_controls last (b ∷ bytes) = is_control last b || has_controls b bytes

-- bytes that a terminal may be shown as they are, from 128 on: they are UTF-8, and none of their characters is a control character
abbrev pub is_shown : List ℕ → Bool
is_shown bytes = is_text bytes && not (has_controls 0 bytes)

-- a byte of a column, where the bytes past ASCII are shown as they are or not
abbrev pub escape : Bool → ℕ → List ℕ
escape text b =
    if b == 92 then 92 ∷ 92 ∷ []
    else (if b == 9 then codes "\\t"
    else (if b == 10 then codes "\\n"
    else (if b == 13 then codes "\\r"
    else (if is_printed b then b ∷ []
    else (if nat_le 128 b && text then b ∷ [] else codes "\\x" ++ hex b)))))

-- bytes as a column shows them
abbrev pub escaped : List ℕ → List ℕ
escaped bytes = flat_map (escape (is_shown bytes)) bytes

-- the first byte, and 0 where there is none
abbrev pub first_of : List ℕ → ℕ
first_of [] = 0
first_of (b ∷ bytes) = b

-- a byte as a terminal may show it, where one past ASCII is shown as it is or not
abbrev pub shown_byte : Bool → ℕ → List ℕ
shown_byte as_is b = if is_printed b then b ∷ [] else (if nat_le 128 b && as_is then b ∷ [] else codes "\\x" ++ hex b)

-- words behind a byte, in a text that is UTF-8 or not: no byte of a control character past ASCII is shown as it is
abbrev pub shown_behind : Bool → ℕ → List ℕ → List ℕ
shown_behind text last [] = []
shown_behind text last (b ∷ words) =
    shown_byte (text && not (is_control last b || is_control b (first_of words))) b ++ shown_behind text b words

-- words as a terminal may show them
abbrev pub shown : List ℕ → List ℕ
shown words = shown_behind (is_text words) 0 words

-- What was read of a column is what it shows: where it shows bytes, these.
abbrev pub ReadsBack : List ℕ → Option (List ℕ) → Type 0
ReadsBack column read = (bytes : List ℕ) → All (λ b. b < 256) bytes → column ≡ escaped bytes → read ≡ Some bytes

-- a byte of a string of JSON
abbrev pub json_escape : Bool → ℕ → List ℕ
json_escape text b =
    if b == 34 then codes "\\\""
    else (if b == 92 then 92 ∷ 92 ∷ []
    else (if is_printed b then b ∷ []
    else (if nat_le 128 b then (if text then b ∷ [] else codes "\\udc" ++ hex b) else codes "\\u00" ++ hex b)))

-- bytes as a string of JSON, with its quotes
abbrev pub json_string : List ℕ → List ℕ
json_string bytes = codes "\"" ++ flat_map (json_escape (is_text bytes)) bytes ++ codes "\""
