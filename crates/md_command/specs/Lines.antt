-- The lines that say why something is not done.
use Rattle.std.specs.Prelude.{ℕ, List, [], ◌++◌, Option, None, Some, String, string_bytes, codes}
use Rattle.std.specs.Fmt.{decimal}
use Rattle.std.specs.declared.alloc.Global.{Global}
use Rattle.md_command.specs.declared.failure.Failure.{Failure}
use Rattle.md_command.specs.Escapes.{escaped}
use Rattle.md_command.specs.Troubles.{text_of}

-- what the system said of it, behind a colon, if it said anything
abbrev pub cause_text : Option (String Global) → List ℕ
cause_text None = []
cause_text (Some cause) = codes ": " ++ string_bytes cause

-- what a line is of: a path, if there is one, or else what was to be done
abbrev pub subject : List ℕ → Option (String Global) → List ℕ
subject what None = what
subject what (Some path) = string_bytes path

-- `deolmutt: WHAT: WHY`, with the bytes of what it is escaped as in a listing
abbrev pub failure_line : List ℕ → Failure → List ℕ
failure_line what failure =
    codes "deolmutt: " ++ escaped (subject what failure.path) ++ codes ": " ++ text_of failure.trouble ++ cause_text failure.cause
    ++ codes "\n"

-- how many messages are done, in a line that the next one is written over
abbrev pub progress_line : ℕ → List ℕ
progress_line count = decimal count ++ codes " messages\r"
