-- Why something is not done: its status, and what is said of it.
use Rattle.std.specs.Prelude.{ℕ, List, codes}
use Rattle.std_io.specs.declared.io.kind.ErrorKind.{ErrorKind}
use Rattle.std_io.specs.declared.io.kind.ErrorKind.TheVariants as kind
use Rattle.md_command.specs.declared.status.Status.{Status}
use Rattle.md_command.specs.declared.status.Status.TheVariants.{Done, Usage, DataError, NoInput}
use Rattle.md_command.specs.declared.status.Status.TheVariants.{CannotCreate, InputOutput, TryAgain, NoPermission}
use Rattle.md_command.specs.declared.trouble.Trouble.{Trouble}
use Rattle.md_command.specs.declared.trouble.Trouble.TheVariants.{Unflushed, BadKey, BadChange, BadFolder}
use Rattle.md_command.specs.declared.trouble.Trouble.TheVariants.{BadClause, BadCall, BadGrade, NeedsOwed}
use Rattle.md_command.specs.declared.trouble.Trouble.TheVariants.{SameMaildir, NotThere}
use Rattle.md_command.specs.declared.trouble.Trouble.TheVariants.{NotTrashed, OtherInfo, TooLong, NotText, NotAFile, NoMailbox, TwoNames}
use Rattle.md_command.specs.declared.trouble.Trouble.TheVariants.{Flawed, NoMaildir, NoDirectory, NoLog, NameTaken, CannotMake, OtherSystem}
use Rattle.md_command.specs.declared.trouble.Trouble.TheVariants.{Unread, Unwritten, Unprinted, Lost, TimedOut}
use Rattle.md_command.specs.declared.trouble.Trouble.TheVariants.{TmpGone, Fault, NoName, NoMemory}
use Rattle.md_command.specs.declared.trouble.Trouble.TheVariants.{NoRights}

-- the status of a command that ends so
abbrev pub status_of : Trouble → Status
status_of Unflushed = Done
status_of BadKey = Usage
status_of BadChange = Usage
status_of BadFolder = Usage
status_of BadClause = Usage
status_of BadCall = Usage
status_of BadGrade = Usage
status_of NeedsOwed = Usage
status_of SameMaildir = Usage
status_of NotThere = DataError
status_of NotTrashed = DataError
status_of OtherInfo = DataError
status_of TooLong = DataError
status_of NotText = DataError
status_of NotAFile = DataError
status_of NoMailbox = DataError
status_of TwoNames = DataError
status_of Flawed = DataError
status_of NoMaildir = NoInput
status_of NoDirectory = NoInput
status_of NoLog = NoInput
status_of NameTaken = CannotCreate
status_of CannotMake = CannotCreate
status_of OtherSystem = CannotCreate
status_of Unread = InputOutput
status_of Unwritten = InputOutput
status_of Unprinted = InputOutput
status_of Lost = TryAgain
status_of TimedOut = TryAgain
status_of TmpGone = TryAgain
status_of Fault = TryAgain
status_of NoName = TryAgain
status_of NoMemory = TryAgain
status_of NoRights = NoPermission

-- what a trouble is by the error that the system told: lack of rights or of memory, or itself
abbrev pub trouble_by : Trouble → ErrorKind → Trouble
trouble_by trouble kind.PermissionDenied = NoRights
trouble_by trouble kind.OutOfMemory = NoMemory
trouble_by trouble _ = trouble

-- what is said of it
abbrev pub text_of : Trouble → List ℕ
text_of Unflushed = codes "delivered, but the directory could not be flushed"
text_of BadKey = codes "not the name of a message, nor its path in this maildir"
text_of BadChange = codes "not a change of flags, as +FS-T"
text_of BadFolder = codes "not the name of a folder"
text_of BadClause = codes "not the name of a clause that may be allowed"
text_of BadCall = codes "not a call of a job: deliver, seen, flag, move, copy, expunge or clean"
text_of BadGrade = codes "not a grade: lost, misled, owed or custom"
text_of NeedsOwed = codes "it goes with --owed or --relies"
text_of SameMaildir = codes "the message is there already"
text_of NotThere = codes "no such message"
text_of NotTrashed = codes "the message has not the flag T"
text_of OtherInfo = codes "the name of the message has no flags after its colon"
text_of TooLong = codes "the message is longer than 16777216 bytes"
text_of NotText = codes "its name is not UTF-8"
text_of NotAFile = codes "it is no regular file"
text_of NoMailbox = codes "no line 'From ' begins the first message"
text_of TwoNames = codes "it has two names"
text_of Flawed = codes "the maildir has flaws"
text_of NoMaildir = codes "no such maildir"
text_of NoDirectory = codes "no such directory"
text_of NoLog = codes "it can't be opened"
text_of NameTaken = codes "the name is taken"
text_of CannotMake = codes "it can't be made"
text_of OtherSystem = codes "it is on another file system"
text_of Unread = codes "reading failed"
text_of Unwritten = codes "writing failed"
text_of Unprinted = codes "delivered, but its name could not be printed"
text_of Lost = codes "others kept changing the message"
text_of TimedOut = codes "the delivery took more than 24 hours"
text_of TmpGone = codes "the file in tmp is gone"
text_of Fault = codes "it could not be done"
text_of NoName = codes "the name of this host makes no unique name"
text_of NoMemory = codes "out of memory"
text_of NoRights = codes "permission denied"
