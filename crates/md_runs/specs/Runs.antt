-- The run that the words of a command line name.
use Rattle.std.specs.Prelude.{◌≡◌, ℕ, ◌≤◌, List, [], ◌∷◌, codes, if◌then◌else◌}
use Rattle.std.specs.Str.{bytes_eq}
use Rattle.std.specs.Str.Parse.{IsNumeral, without_leading_plus, digits_value}
use Rattle.md_runs.specs.declared.words.Run.{Run}
use Rattle.md_runs.specs.declared.words.Run.TheVariants.{Play, Threads, Index}

-- The operands among the words after a subcommand. A `--` in front of them ends its options, as for any utility of POSIX.
abbrev pub operands_of : List (List ℕ) → List (List ℕ)
operands_of [] = []
operands_of (word ∷ words) = if bytes_eq word (codes "--") then words else word ∷ words

-- a subcommand and its operands
pub record IsCommand (words : List (List ℕ)) (name : List ℕ) (operands : List (List ℕ)) : Type 0 where
  pub others : List (List ℕ)
  pub words_are : words ≡ name ∷ others
  pub operands_are : operands_of others ≡ operands

-- a number from 1 to the most, in decimal digits, with or without a plus sign
pub record IsNumber (word : List ℕ) (n most : ℕ) : Type 0 where
  pub digits : IsNumeral 10 (without_leading_plus word)
  pub value : n ≡ digits_value 10 (without_leading_plus word)
  pub low : 1 ≤ n
  pub high : n ≤ most

-- a subcommand and a number
pub record IsCounted (words : List (List ℕ)) (name : List ℕ) (n most : ℕ) : Type 0 where
  pub word : List ℕ
  pub called : IsCommand words name (word ∷ [])
  pub number : IsNumber word n most

-- the words of a command line name this run, with a count in its range
abbrev pub WordsName : List (List ℕ) → Run → Type 0
WordsName words Play = IsCommand words (codes "play") []
WordsName words (Threads n) = IsCounted words (codes "threads") n 16
WordsName words (Index n) = IsCounted words (codes "index") n 64

-- no run is named
abbrev pub WordsNameNone : List (List ℕ) → Type 0
WordsNameNone words = (run : Run) → ¬ WordsName words run
