-- The statuses that the program ends with.
use Rattle.std.specs.Prelude.{ℕ}
use Rattle.md_command.specs.declared.status.Status.{Status}
use Rattle.md_command.specs.declared.status.Status.TheVariants.{Done, Refused, Unjudged, Usage, DataError, NoInput}
use Rattle.md_command.specs.declared.status.Status.TheVariants.{CannotCreate, InputOutput, TryAgain, NoPermission}

-- the numbers of sysexits.h, and those of scripts and of logs below them
abbrev pub number_of : Status → ℕ
number_of Done = 0
number_of Refused = 1
number_of Unjudged = 2
number_of Usage = 64
number_of DataError = 65
number_of NoInput = 66
number_of CannotCreate = 73
number_of InputOutput = 74
number_of TryAgain = 75
number_of NoPermission = 77
