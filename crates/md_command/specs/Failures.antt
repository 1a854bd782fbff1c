-- What refuses a command, where the system said nothing.
use Rattle.std.specs.Prelude.{Bool, true, false, None}
use Rattle.std_io.specs.declared.io.kind.ErrorKind.{ErrorKind}
use Rattle.std_io.specs.declared.io.kind.ErrorKind.TheVariants as kind
use Rattle.md_command.specs.declared.failure.Failure.{Failure}
use Rattle.md_command.specs.declared.trouble.Trouble.{Trouble}

-- a trouble alone: nothing is said of it, and it is of what was to be done
abbrev pub failed : Trouble → Failure
failed trouble = record { trouble = trouble; cause = None; path = None }

-- whether the trouble says all that the system said
abbrev pub says_all : ErrorKind → Bool
says_all kind.PermissionDenied = true
says_all kind.OutOfMemory = true
says_all _ = false
