-- What wrong words are answered with.
use Rattle.std.specs.Prelude.{◌≡◌, ℕ, ◌⊎◌, List, [], ◌∷◌, ◌++◌, codes}
use Rattle.std.specs.List.{before_first}
use Rattle.std.specs.Str.Iter.{LacksByte}
use Rattle.memchr.specs.Find.{is_byte}
use Rattle.md_script.specs.Texts.{line_end}

-- what is in front of the first line feed, or all
abbrev pub first_line : List ℕ → List ℕ
first_line text = before_first (is_byte 10) text

-- a tip as a line of its own, if it isn't empty
abbrev pub tip_line : List ℕ → List ℕ
tip_line [] = []
tip_line (b ∷ bytes) = (b ∷ bytes) ++ line_end

-- A program's answer to wrong words: a line that says why they are wrong, and where help is; then the tip. Of both the first line is taken.
abbrev pub complaint_of : List ℕ → List ℕ → List ℕ → List ℕ
complaint_of program why tip =
    program ++ codes ": " ++ first_line why ++ codes "; try '" ++ program ++ codes " --help'\n" ++ tip_line (first_line tip)

-- nothing, or one more line
abbrev pub IsTip : List ℕ → Type 0
IsTip tip = (tip ≡ []) ⊎ ((text : List ℕ) × LacksByte 10 text × (tip ≡ text ++ line_end))

-- A line of a program that says what is wrong with words, and where help is; a second may name a subcommand that was meant.
pub record IsComplaint (program lines : List ℕ) : Type 0 where
  pub why : List ℕ
  pub in_line : LacksByte 10 why
  pub tip : List ℕ
  pub is_tip : IsTip tip
  pub are : lines ≡ program ++ codes ": " ++ why ++ codes "; try '" ++ program ++ codes " --help'\n" ++ tip
