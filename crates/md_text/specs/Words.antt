-- The words of a line, read from left to right. Where one is missing, or isn't what is asked for, None is read: each language has refusals
-- of its own.
use Rattle.std.specs.Prelude.{◌≡◌, ℕ, Bool, true, ◌&&◌, ◌==◌, ◌^◌, List, [], ◌∷◌, length, nat_le, nat_lt, Option, Some, None, if◌then◌else◌}
use Rattle.std.specs.List.{list_any, before_first, after_first}
use Rattle.std.specs.Str.{all_ascii_digits}
use Rattle.std.specs.Str.Parse.{digits_value}
use Rattle.memchr.specs.Find.{is_byte}

-- what is left of a line: None at its end, and else what follows a space
abbrev pub Rest : Type 0
Rest = Option (List ℕ)

-- an empty line and one that begins with `#` say nothing
abbrev pub is_passed_over : List ℕ → Bool
is_passed_over [] = true
is_passed_over (b ∷ line) = b == 35

-- the byte of a space
abbrev pub is_space : ℕ → Bool
is_space b = is_byte 32 b

-- what is before the first of such bytes, and what is left after it
unfoldable pub cut_at : ℕ → List ℕ → List ℕ × Rest
cut_at byte text =
    (before_first (is_byte byte) text, if list_any (is_byte byte) text then Some (after_first (is_byte byte) text) else None)

-- a word has at least one byte
abbrev pub nonempty_word : List ℕ × Rest → Option (List ℕ × Rest)
nonempty_word ([], rest) = None
nonempty_word (b ∷ bytes, rest) = Some (b ∷ bytes, rest)

-- the next word: exactly one space parts two words
unfoldable pub next_word : Rest → Option (List ℕ × Rest)
next_word None = None
next_word (Some text) = nonempty_word (cut_at 32 text)

-- the number that a word of 1 to so many digits spells, below 2 ^ 64
unfoldable pub number_in : ℕ → List ℕ → Option ℕ
number_in most word =
    if nat_lt 0 (length word) && nat_le (length word) most && all_ascii_digits word && nat_lt (digits_value 10 word) (2 ^ 64)
    then Some (digits_value 10 word) else None

-- The next word spells a number of 1 to so many digits, and this is left after it.
pub record Spells (most : ℕ) (rest : Rest) (number : ℕ) (left : Rest) : Type 0 where
  pub word : List ℕ
  pub next : next_word rest ≡ Some (word, left)
  pub is : number_in most word ≡ Some number

-- The next word spells no number of 1 to so many digits.
abbrev pub SpellsNone : ℕ → Rest → Type 0
SpellsNone most rest = (word : List ℕ) (left : Rest) → next_word rest ≡ Some (word, left) → number_in most word ≡ None
