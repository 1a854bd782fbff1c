-- Why a job on a disk has not done what it was for: which answers and which causes are troubles.
use Rattle.std.specs.Prelude.{Bool, true, false, Option, None, Some, Result, Ok, Err}
use Rattle.std_io.specs.declared.io.error.Error.{Error}
use Rattle.std_io.specs.IoError.{error_kind}
use Rattle.std_io.specs.declared.io.kind.ErrorKind.{ErrorKind}
use Rattle.std_io.specs.declared.io.kind.ErrorKind.TheVariants as kind
use Rattle.md_disk.specs.declared.cause.Cause.{Cause}
use Rattle.md_disk.specs.declared.cause.Cause.TheVariants as cause
use Rattle.md_jobs.specs.declared.answer.Answer.{Answer}
use Rattle.md_jobs.specs.declared.answer.Answer.TheVariants as answer
use Rattle.md_jobs.specs.declared.error.CoreError.{CoreError}
use Rattle.md_jobs.specs.declared.error.CoreError.TheVariants as core
use Rattle.md_name.specs.declared.error.NameError.{NameError}
use Rattle.md_name.specs.declared.error.NameError.TheVariants as name
use Rattle.md_command.specs.Troubles.{trouble_by}
use Rattle.md_command.specs.declared.trouble.Trouble.{Trouble}
use Rattle.md_command.specs.declared.trouble.Trouble.TheVariants.{NotThere, NotTrashed, OtherInfo, NotText}
use Rattle.md_command.specs.declared.trouble.Trouble.TheVariants.{NotAFile, TwoNames, NoMaildir, OtherSystem}
use Rattle.md_command.specs.declared.trouble.Trouble.TheVariants.{NameTaken, Lost, TimedOut, TmpGone, Fault, NoName, NoMemory, NoRights}

-- why a job that ended with this answer has not done what it was for, if it has not
abbrev pub trouble_of : Answer → Option Trouble
trouble_of answer.Delivered = None
trouble_of (answer.Flags flags) = None
trouble_of answer.Moved = None
trouble_of answer.Expunged = None
trouble_of answer.Copied = None
trouble_of (answer.Cleaned files) = None
trouble_of answer.NotThere = Some NotThere
trouble_of answer.NotTrashed = Some NotTrashed
trouble_of answer.OtherInfo = Some OtherInfo
trouble_of answer.Lost = Some Lost
trouble_of answer.TimedOut = Some TimedOut
trouble_of answer.TmpGone = Some TmpGone
trouble_of answer.NameTaken = Some NameTaken
trouble_of answer.Fault = Some Fault

-- why a job was not run
abbrev pub trouble_of_refusal : CoreError → Trouble
trouble_of_refusal core.NoMemory = NoMemory
trouble_of_refusal _ = Fault

-- why a unique name was not made
abbrev pub trouble_of_name : NameError → Trouble
trouble_of_name name.NoMemory = NoMemory
trouble_of_name _ = NoName

-- why a path is no maildir's, as far as the system told whether it is
abbrev pub trouble_of_box : Result Bool Error → Option Trouble
trouble_of_box (Ok true) = None
trouble_of_box (Ok false) = Some NoMaildir
trouble_of_box (Err error) = Some (trouble_by NoMaildir (error_kind error))

-- what an error of the system is to a command
abbrev pub trouble_of_kind : ErrorKind → Trouble
trouble_of_kind kind.PermissionDenied = NoRights
trouble_of_kind kind.OutOfMemory = NoMemory
trouble_of_kind _ = Fault

-- what a cause of the system is to a command; any other is a call that failed
abbrev pub trouble_caused : Cause → Trouble
trouble_caused (cause.System error) = trouble_of_kind error
trouble_caused cause.NotText = NotText
trouble_caused cause.NotAFile = NotAFile
trouble_caused cause.TwoNames = TwoNames
trouble_caused cause.NoDirectory = NoMaildir
trouble_caused cause.NoMessage = NotThere
trouble_caused cause.NameTaken = NameTaken
trouble_caused cause.Lost = Lost
trouble_caused _ = Fault

-- the trouble of a job on a disk: a fault is its cause
abbrev pub trouble_told : Trouble → Option Cause → Trouble
trouble_told Fault (Some cause) = trouble_caused cause
trouble_told trouble _ = trouble

-- the same of an errand, which never gets a message to another file system
abbrev pub errand_told : Trouble → Option Cause → Trouble
errand_told Fault (Some (cause.System kind.CrossesDevices)) = OtherSystem
errand_told trouble cause = trouble_told trouble cause
