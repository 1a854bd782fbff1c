-- Why nothing was judged, or printed, and what is said of it.
use Rattle.std.specs.Prelude.{ℕ, List, [], ◌++◌, codes}
use Rattle.std.specs.Fmt.{decimal}
use Rattle.std.specs.declared.io.ErrorKind.{ErrorKind}
use Rattle.std.specs.declared.io.ErrorKind.TheVariants as kind
use Rattle.md_log.specs.declared.error.LineFault.TheVariants.{NoMemory}
use Rattle.md_log.specs.Texts.{fault_text}
use Rattle.md_findings.specs.declared.blame.Blame.{Blame}
use Rattle.md_findings.specs.declared.blame.Blame.TheVariants as blame
use Rattle.md_findings.specs.declared.blame.Flaw.{Flaw}
use Rattle.md_findings.specs.declared.blame.Flaw.TheVariants as flaw
use Rattle.md_findings.specs.declared.fault.Fault.{Fault}
use Rattle.md_findings.specs.declared.fault.Fault.TheVariants as fault

-- memory was refused at a line
abbrev pub no_memory : ℕ → Fault
no_memory line = fault.Log (record { line = line; fault = NoMemory })

-- a line can't be read
abbrev pub unread : ℕ → ErrorKind → Fault
unread line kind.OutOfMemory = no_memory line
unread line _ = fault.Read line

-- the line that is to blame, or 0
abbrev pub line_of : Fault → ℕ
line_of (fault.Log f) = f.line
line_of (fault.Word f b) = f.line
line_of (fault.Read line) = line
line_of fault.Write = 0

-- what is said, but for the word
abbrev pub text_of : Fault → List ℕ
text_of (fault.Log f) = fault_text f.fault
text_of (fault.Word f b) = fault_text f.fault
text_of (fault.Read line) = codes "read fault"
text_of fault.Write = codes "write fault"

-- how a word is not what it should be
abbrev pub flaw_text : Flaw → List ℕ
flaw_text flaw.Wrong = []
flaw_text flaw.Missing = codes " is missing, and"
flaw_text flaw.Empty = codes " is empty, and"

-- what is said of a word
abbrev pub blame_text : Blame → List ℕ
blame_text (blame.Word number flaw wanted) = codes "word " ++ decimal number ++ flaw_text flaw ++ codes " should be " ++ wanted.now
blame_text (blame.TooMany number) = codes "there should be no word " ++ decimal number

-- and of the line
abbrev pub said : Fault → List ℕ
said (fault.Word f b) = text_of (fault.Word f b) ++ codes ": " ++ blame_text b
said f = text_of f
