-- A set of letters as a word: a bit for each letter, A's the lowest. It's how the code keeps a set, and no other
-- definition rests on it.
use Rattle.std.specs.Prelude.{ℕ, zero, suc, ◌+◌, ◌-◌, ◌*◌, Bool, ◌==◌, nat_le, nat_lt, if◌then◌else◌}
use Rattle.std.specs.Int.{bit_at}
use Rattle.std.specs.FinSet as set
use Rattle.md_name.specs.Letters.{letters, Set}

-- the place of a letter among the letters in order, and the letter at a place
abbrev pub place_of : ℕ → ℕ
place_of c = if nat_le c 90 then c - 65 else c - 71

-- the letter at a place
abbrev pub letter_at : ℕ → ℕ
letter_at i = if nat_lt i 26 then i + 65 else i + 71

-- the letters whose bits are set
unfoldable pub letters_in : ℕ → Set
letters_in word = set.retain (set.from_list letters) (λ c. bit_at word (place_of c) == 1)

-- the number whose first n bits are as p says
unfoldable pub word_by : ℕ → (ℕ → Bool) → ℕ
word_by zero p = 0
word_by (suc n) p = (if p 0 then 1 else 0) + 2 * word_by n (λ i. p (suc i))

-- the word of a set
unfoldable pub word_of : Set → ℕ
word_of s = word_by 52 (λ i. set.contains s (letter_at i))
