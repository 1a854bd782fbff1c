-- The words of a line, read from left to right, and how a script refuses them.
use Rattle.std.specs.Prelude.{◌≡◌, ◌≢◌, ℕ, false, List, [], Some, None, Result, Ok, Err, ok_or}
use Rattle.md_text.specs.Bind.{◌>>=◌}
use Rattle.md_text.specs.Words.{Rest, next_word, number_in}
use Rattle.md_text.specs.Escapes.{unescaped}
use Rattle.md_script.specs.declared.error.PlayKind.{PlayKind}
use Rattle.md_script.specs.declared.error.PlayKind.TheVariants.{BadCommand, BadNumber, BadEscape, NoMemory}

-- the next word
unfoldable pub word_at : Rest → Result (List ℕ × Rest) PlayKind
word_at rest = ok_or (next_word rest) BadCommand

-- no word is left
unfoldable pub end_at : Rest → Result (Unit {0}) PlayKind
end_at None = Ok tt
end_at (Some text) = Err BadCommand

-- the next word as a number of 1 to 20 digits below 2 ^ 64
unfoldable pub number_at : Rest → Result (ℕ × Rest) PlayKind
number_at rest = do
  word ← word_at rest
  n ← ok_or (number_in 20 word.0) BadNumber
  Ok (n, word.1)

-- the rest of the line with its escapes read; it is empty where it is left out
unfoldable pub body_at : Rest → Result (List ℕ) PlayKind
body_at None = Ok []
body_at (Some text) = ok_or (unescaped false text) BadEscape

-- A function returned this value, seen by view, or this refusal, unless memory ran out.
abbrev pub Gives : {X Y : Type 0} → (X → Y) → Result X PlayKind → Result Y PlayKind → Type 0
Gives view (Ok x) answer = answer ≡ Ok (view x)
Gives view (Err kind) answer = kind ≢ NoMemory → answer ≡ Err kind
