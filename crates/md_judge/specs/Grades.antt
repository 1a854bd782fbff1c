-- What a finding costs.
use Rattle.std.specs.Prelude.{ℕ, List, Bool, true, false, codes}
use Rattle.md_law.specs.Values.{Clause, Call}
use Rattle.md_log.specs.declared.clause.Clause.TheVariants as clause
use Rattle.md_log.specs.declared.line.Call.TheVariants as call
use Rattle.md_log.specs.declared.line.Said.TheVariants as said
use Rattle.md_judge.specs.declared.grade.Grade.{Grade}
use Rattle.md_judge.specs.declared.grade.Grade.TheVariants.{Lost, Misled, Owed, Custom}

-- a grade by its name
abbrev pub grade_text : Grade → List ℕ
grade_text Lost = codes "lost"
grade_text Misled = codes "misled"
grade_text Owed = codes "owed"
grade_text Custom = codes "custom"

-- how many grades are worse
abbrev pub rank : Grade → ℕ
rank Lost = 0
rank Misled = 1
rank Owed = 2
rank Custom = 3

-- of an answer that is not so: mail or a flag that was said to be there isn't, or something else was said
abbrev pub grade_of_answer : Call → Grade
grade_of_answer (call.Answer said.Delivered folder unique) = Lost
grade_of_answer (call.Answer (said.Flags flags) folder unique) = Lost
grade_of_answer (call.Answer (said.Moved to) folder unique) = Lost
grade_of_answer c = Misled

-- of a clause that a call breaks, so far as the step tells: a message that is gone is one still, by another unique name, or isn't
abbrev pub grade_by : Clause → Call → Bool → Grade
grade_by clause.NotADirectory c renamed = Lost
grade_by clause.Overwritten c renamed = Lost
grade_by clause.CleanedEarly c renamed = Lost
grade_by clause.Gone c true = Custom
grade_by clause.Gone c false = Lost
grade_by clause.SeenBeforeWhole c renamed = Misled
grade_by clause.Unlisted c renamed = Misled
grade_by clause.AnsweredFalsely c renamed = grade_of_answer c
grade_by clause.GaveUp c renamed = Custom
grade_by clause c renamed = Owed
