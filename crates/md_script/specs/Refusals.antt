-- What a refusal says.
use Rattle.std.specs.Prelude.{ℕ, List, codes}
use Rattle.md_name.specs.declared.error.NameError.{NameError}
use Rattle.md_name.specs.declared.error.NameError.TheVariants as name
use Rattle.md_jobs.specs.declared.error.CoreError.{CoreError}
use Rattle.md_jobs.specs.declared.error.CoreError.TheVariants as core
use Rattle.md_script.specs.declared.error.PlayKind.{PlayKind}
use Rattle.md_script.specs.declared.error.PlayKind.TheVariants as play

-- what an error of the store says
abbrev pub core_text : CoreError → List ℕ
core_text core.BadName = codes "bad name"
core_text core.LongUnique = codes "long unique"
core_text core.DuplicateUnique = codes "duplicate unique"
core_text core.NameUsed = codes "name used"
core_text core.NoFolder = codes "no folder"
core_text core.SameFolder = codes "same folder"
core_text core.BadUnique = codes "bad unique"
core_text core.BadTries = codes "bad tries"
core_text core.BadChunk = codes "bad chunk"
core_text core.TooManyJobs = codes "too many jobs"
core_text core.BodyTooLong = codes "body too long"
core_text core.NoJob = codes "no job"
core_text core.Answered = codes "answered"
core_text core.NoMemory = codes "no memory"

-- what an error of a name says
abbrev pub name_text : NameError → List ℕ
name_text name.BadHost = codes "bad host"
name_text name.BadMicro = codes "bad micro"
name_text name.NoMemory = codes "no memory"
name_text name.BadFlag = codes "bad flag"

-- why a script, or one of its lines, is refused
abbrev pub kind_text : PlayKind → List ℕ
kind_text play.BadCommand = codes "bad command"
kind_text play.BadNumber = codes "bad number"
kind_text play.BadEscape = codes "bad escape"
kind_text play.BadPlace = codes "bad place"
kind_text play.BadFolder = codes "bad folder"
kind_text play.UnknownFolder = codes "unknown folder"
kind_text play.TooLate = codes "too late"
kind_text play.NoFirst = codes "no first reading"
kind_text play.SamePath = codes "same path twice"
kind_text (play.Core error) = core_text error
kind_text (play.Name error) = name_text error
kind_text play.ReadFault = codes "read fault"
kind_text play.WriteFault = codes "write fault"
kind_text play.TooLong = codes "script too long"
kind_text play.TooManyReads = codes "too many reads"
kind_text play.NoMemory = codes "no memory"
kind_text play.NotInThisRun = codes "not in this run"
