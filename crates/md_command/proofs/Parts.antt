-- How long what is read may be.
use Rattle.std.proofs.Common.{◌≤◌, ℕ, List, length, ap, arith}
use Rattle.md_command.specs.Parts.{IsRead}
use Rattle.md_command.specs.declared.lines.Line.{Line}
use Rattle.md_command.specs.declared.lines.Line.TheVariants.{End, Whole, TooLong}

pub within : (kind : Line) (most : ℕ) (line : List ℕ) → IsRead kind most line → length line ≤ most
within End most line is = omega (arith, ap length is)
within Whole most line is = is
within TooLong most line is = omega (arith, ap length is)
