-- The answer of a refusal.
use Rattle.md_jobs.specs.Turn.{After, ends}
use Rattle.md_jobs.specs.declared.answer.Answer.{Answer}
use Rattle.md_jobs.specs.declared.answer.Answer.TheVariants as answer
use Rattle.md_jobs.specs.declared.refusal.Refusal.{Refusal}
use Rattle.md_jobs.specs.declared.refusal.Refusal.TheVariants.{NotThere, NotTrashed, OtherInfo, NameTaken, Lost, TimedOut, TmpGone, Fault}

-- each refusal is the answer of its name
abbrev pub refused_by : Refusal → Answer
refused_by NotThere = answer.NotThere
refused_by NotTrashed = answer.NotTrashed
refused_by OtherInfo = answer.OtherInfo
refused_by NameTaken = answer.NameTaken
refused_by Lost = answer.Lost
refused_by TimedOut = answer.TimedOut
refused_by TmpGone = answer.TmpGone
refused_by Fault = answer.Fault

-- the job ends with a refusal
abbrev pub refuses : {T : Type 0} → T → Refusal → After T
refuses task refusal = ends task (refused_by refusal)
