-- What the search from line end to line end says of the bytes that it passes.
use Rattle.std.specs.Prelude.{◌≡◌, ℕ, ◌<◌, ◌≤◌, Bool, false, ◌||◌, ◌==◌, List, ◌∷◌, ◌++◌, take, drop, length, slice_index}
use Rattle.std.specs.List.{AllPass}
use Rattle.md_head.specs.Header.{is_blank, is_continuation, lines_of, IsWholeLines}

-- The bytes are one line and continuations of it.
pub record IsOneGroup (bytes : List ℕ) : Type 0 where
  pub first : List ℕ
  pub continuations : List (List ℕ)
  pub all_lines : lines_of bytes ≡ first ∷ continuations
  pub goes_on : AllPass is_continuation continuations

-- The text's first line and its continuations, with their line ends, take n bytes.
pub record EndsGroup (text : List ℕ) (n : ℕ) : Type 0 where
  pub some : 0 < n
  pub within : n ≤ length text
  pub one : IsOneGroup (take n text)
  pub cut : lines_of text ≡ lines_of (take n text) ++ lines_of (drop n text)
  pub line_ends : 0 < length (drop n text) → IsWholeLines (take n text)
  pub over : is_blank (slice_index (drop n text) 0) ≡ false

-- A letter that one of the names subject, from, message-id and date begins with, in either case.
abbrev pub is_initial : ℕ → Bool
is_initial b = b == 83 || b == 115 || b == 70 || b == 102 || b == 77 || b == 109 || b == 68 || b == 100
