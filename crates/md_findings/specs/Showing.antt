-- A finding as a line of text.
use Rattle.std.specs.Prelude.{ℕ, List, [], ◌++◌, Option, None, Some, codes}
use Rattle.std.specs.Fmt.{decimal}
use Rattle.md_command.specs.Escapes.{shown}
use Rattle.md_judge.specs.Grades.{grade_text}
use Rattle.md_findings.specs.declared.shown.Shown.{Shown}

-- what comes next in a line for people
abbrev pub part : List ℕ → List ℕ
part words = codes ": " ++ shown words

-- the earlier line that the finding goes back to, if there is one
abbrev pub before_text : Option ℕ → List ℕ
before_text None = []
before_text (Some line) = codes " (see line " ++ decimal line ++ codes ")"

-- `LINE CLAUSE`
abbrev pub short_line : Shown → List ℕ
short_line s = decimal s.line ++ codes " " ++ s.clause.now ++ codes "\n"

-- a line for people
abbrev pub long_line : Shown → List ℕ
long_line s =
    codes "line " ++ decimal s.line ++ part s.actor.now ++ part s.call.now ++ part s.clause.now
    ++ codes " (" ++ grade_text s.grade ++ codes ")" ++ part s.why.now ++ before_text s.before ++ codes "\n"
