-- Findings, counted by clause.
use Rattle.std.specs.Prelude.{ℕ, List, [], ◌++◌, ◌+◌, ◌-◌, ◌^◌, ◌==◌, min, Option, None, Some, if◌then◌else◌, codes}
use Rattle.std.specs.Fmt.{decimal}
use Rattle.std.specs.Option.{unwrap_or}
use Rattle.std.specs.List.{flat_map, sum_by}
use Rattle.std.specs.Str.{bytes_eq}
use Rattle.md_findings.specs.declared.summary.Count.{Count}

-- the most that a count holds
abbrev pub most : ℕ
most = 2 ^ 64 - 1

-- what was found of a clause, with one more finding at a line
abbrev pub with_finding : ℕ → Count → Count
with_finding line count = record count { findings = min (count.findings + 1) most; first = Some (unwrap_or count.first line) }

-- the same, if it is this clause
abbrev pub added : List ℕ → ℕ → Count → Count
added clause line count = if bytes_eq count.clause.now clause then with_finding line count else count

-- how many findings there are
abbrev pub sum_of : List Count → ℕ
sum_of counts = min (sum_by (λ count. count.findings) counts) most

-- the line of a clause that was first found at a line, if it was
abbrev pub line_at : Count → Option ℕ → List ℕ
line_at count None = []
line_at count (Some first) =
    decimal count.findings ++ codes " " ++ count.clause.now ++ codes ", first at line " ++ decimal first
    ++ codes ": " ++ count.why.now ++ codes "\n"

-- the line of a clause
abbrev pub count_line : Count → List ℕ
count_line count = line_at count count.first

-- the line of the sum
abbrev pub sum_line : ℕ → List ℕ
sum_line sum = decimal sum ++ (if sum == 1 then codes " finding\n" else codes " findings\n")

-- the lines of all clauses, and of the sum
abbrev pub summary : List Count → List ℕ
summary counts = flat_map count_line counts ++ sum_line (sum_of counts)
