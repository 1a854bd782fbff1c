-- Bytes written in one line, with escapes.
use Rattle.std.specs.Prelude.{ℕ, Bool, ◌&&◌, ◌==◌, List, [], ◌∷◌, ◌++◌, Option, Some, None, option_map, option_and_then, if◌then◌else◌}
use Rattle.std.specs.List.{flat_map}

-- a backslash, a line feed and a carriage return as two bytes each, and any other byte as it is
abbrev pub escape : ℕ → List ℕ
escape b =
    if b == 92 then 92 ∷ 92 ∷ []
    else (if b == 10 then 92 ∷ 110 ∷ []
    else (if b == 13 then 92 ∷ 114 ∷ [] else b ∷ []))

-- bytes with each of them written so
abbrev pub escape_all : List ℕ → List ℕ
escape_all bytes = flat_map escape bytes

-- The byte that a backslash and a letter stand for: `\n` a line feed, `\r` a carriage return, `\\` a backslash; and `\s` a space, where
-- spaces are written so too.
unfoldable pub meant_by : Bool → ℕ → Option ℕ
meant_by spaces letter =
    if letter == 110 then Some 10
    else (if letter == 114 then Some 13
    else (if letter == 92 then Some 92
    else (if spaces && letter == 115 then Some 32 else None)))

-- bytes before those that were read
abbrev pub onto : List ℕ → Option (List ℕ) → Option (List ℕ)
onto front read = option_map (λ bytes. front ++ bytes) read

-- the bytes that a text stands for: a backslash and the letter after it are one byte, and any other byte is itself
unfoldable pub unescaped : Bool → List ℕ → Option (List ℕ)
unescaped spaces [] = Some []
unescaped spaces (b ∷ []) = if b == 92 then None else Some (b ∷ [])
unescaped spaces (b ∷ c ∷ text) =
    if b == 92 then option_and_then (λ x. onto (x ∷ []) (unescaped spaces text)) (meant_by spaces c)
    else onto (b ∷ []) (unescaped spaces (c ∷ text))
