-- What is known of the answer to words that the options of a program don't take.
use Rattle.std.specs.Prelude.{ℕ, List}
use Rattle.md_runs.specs.declared.advice.Advice.{Advice}
use Rattle.md_runs.specs.declared.advice.Advice.TheVariants.{Refused}
use Rattle.md_runs.specs.Complaints.{IsComplaint}

-- a refusal is a line that complains of the words
abbrev pub IsAdvice : List ℕ → Advice → Type 0
IsAdvice program (Refused line) = IsComplaint program line.items
IsAdvice program other = Unit {0}
