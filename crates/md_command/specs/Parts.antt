-- How long what is read may be.
use Rattle.std.specs.Prelude.{◌≡◌, ◌≤◌, ℕ, List, [], length}
use Rattle.md_command.specs.declared.lines.Line.{Line}
use Rattle.md_command.specs.declared.lines.Line.TheVariants.{End, Whole, TooLong}

-- A line that was read is no longer than wanted. Where there is none, and where it is longer, nothing is there.
abbrev pub IsRead : Line → ℕ → List ℕ → Type 0
IsRead End most line = line ≡ []
IsRead Whole most line = length line ≤ most
IsRead TooLong most line = line ≡ []
