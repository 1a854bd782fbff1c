-- A column that is read from its beginning, a byte at a time.
use Rattle.std.specs.Prelude.{ℕ, zero, suc, ◌+◌, ◌-◌, ◌*◌, ◌==◌, ◌&&◌, nat_le, List, [], ◌∷◌, ◌++◌, length}
use Rattle.std.specs.Prelude.{Option, Some, None, option_map, option_and_then, if◌then◌else◌}

-- the value of a digit of a byte
abbrev pub value_of : ℕ → Option ℕ
value_of c =
    if nat_le 48 c && nat_le c 57 then Some (c - 48)
    else (if nat_le 97 c && nat_le c 102 then Some (c - 87) else None)

-- the byte that a backslash and a letter stand for
abbrev pub meant_by : ℕ → Option ℕ
meant_by c =
    if c == 92 then Some 92
    else (if c == 116 then Some 9
    else (if c == 110 then Some 10
    else (if c == 114 then Some 13 else None)))

-- the byte of two digits
abbrev pub byte_of : ℕ → ℕ → Option ℕ
byte_of high low = option_and_then (λ x. option_map (λ y. x * 16 + y) (value_of low)) (value_of high)

-- a byte before what is left, if there is one
abbrev pub before : List ℕ → Option ℕ → Option (ℕ × List ℕ)
before rest byte = option_map (λ b. (b, rest)) byte

-- the byte of an escape whose backslash was read, and what is behind it
abbrev pub first_escaped : List ℕ → Option (ℕ × List ℕ)
first_escaped [] = None
first_escaped (c ∷ []) = before [] (meant_by c)
first_escaped (c ∷ high ∷ []) = before (high ∷ []) (meant_by c)
first_escaped (c ∷ high ∷ low ∷ column) =
    if c == 120 then before column (byte_of high low) else before (high ∷ low ∷ column) (meant_by c)

-- the byte that a column begins with, as it is or by an escape, and what is behind it
abbrev pub first_shown : List ℕ → Option (ℕ × List ℕ)
first_shown [] = None
first_shown (b ∷ column) = if b == 92 then first_escaped column else Some (b, column)

-- bytes in front of those that were read
abbrev pub onto : List ℕ → Option (List ℕ) → Option (List ℕ)
onto front read = option_map (λ bytes. front ++ bytes) read

-- the bytes that a column shows, where these are so many at most: its first one, and those of what is behind it
unfoldable pub read_at_most : ℕ → List ℕ → Option (List ℕ)
read_at_most zero [] = Some []
read_at_most zero (b ∷ column) = None
read_at_most (suc n) [] = Some []
read_at_most (suc n) (b ∷ column) =
    option_and_then (λ first. onto (first.0 ∷ []) (read_at_most n first.1)) (first_shown (b ∷ column))

-- The bytes that a column shows, if it shows any. Each takes a byte of the column at least, so that they are no more than its bytes.
unfoldable pub unescaped : List ℕ → Option (List ℕ)
unescaped column = read_at_most (length column) column
