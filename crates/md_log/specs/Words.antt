-- The words of a line, read from left to right, and how a log refuses them.
use Rattle.std.specs.Prelude.{◌≢◌, ◌≡◌, ℕ, List, Some, None, Result, Ok, Err, ok_or}
use Rattle.md_text.specs.Words.{Rest, cut_at, next_word, number_in}
use Rattle.md_log.specs.declared.error.LineFault.{LineFault}
use Rattle.md_log.specs.declared.error.LineFault.TheVariants.{BadLine, BadNumber, NoMemory}

-- the next word
unfoldable pub word_at : Rest → Result (List ℕ × Rest) LineFault
word_at rest = ok_or (next_word rest) BadLine

abbrev pub parted_by : LineFault → List ℕ × Rest → Result (List ℕ × List ℕ) LineFault
parted_by fault (front, None) = Err fault
parted_by fault (front, Some left) = Ok (front, left)

-- what is before the first of such bytes, and what is left after it; or this fault, where there is none
unfoldable pub parted : ℕ → LineFault → List ℕ → Result (List ℕ × List ℕ) LineFault
parted byte fault text = parted_by fault (cut_at byte text)

-- no word is left
unfoldable pub end_at : Rest → Result (Unit {0}) LineFault
end_at None = Ok tt
end_at (Some text) = Err BadLine

-- a number of 1 to 19 digits
unfoldable pub number_of : List ℕ → Result ℕ LineFault
number_of word = ok_or (number_in 19 word) BadNumber

-- A reader returned this value, seen by view, or this fault, unless memory was refused.
abbrev pub Gives : {X Y : Type 0} → (X → Y) → Result X LineFault → Result Y LineFault → Type 0
Gives view (Ok x) answer = answer ≡ Ok (view x)
Gives view (Err fault) answer = fault ≢ NoMemory → answer ≡ Err fault
