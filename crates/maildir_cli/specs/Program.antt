-- What the program does for the words of its command line: its status, and what it read, printed and said on standard error.
use Rattle.std.specs.Prelude.{◌≡◌, ℕ, ◌+◌, ◌≤◌, ◌⊎◌, List, ◌++◌, Result, Ok, Err, codes}
use Rattle.std.specs.Fmt.{decimal}
use Rattle.md_script.specs.declared.error.PlayKind.TheVariants.{NoMemory}
use Rattle.md_script.specs.declared.sink.Put.{Put}
use Rattle.md_script.specs.Kinds.{at_no_line}
use Rattle.md_script.specs.Play.{Writes}
use Rattle.md_script.specs.Reading.{most_reads}
use Rattle.md_script.specs.Sinks.{Sink, Puts}
use Rattle.md_script.specs.Sources.{Source}
use Rattle.md_script.specs.Texts.{line_end}
use Rattle.md_runs.specs.declared.fault.RunFault.{RunFault}
use Rattle.md_runs.specs.declared.fault.RunFault.TheVariants as fault
use Rattle.md_runs.specs.declared.words.Run.{Run}
use Rattle.md_runs.specs.Complaints.{IsComplaint}
use Rattle.md_runs.specs.Faults.{refused_line, refusal_text}
use Rattle.md_runs.specs.Performing.{Performs}
use Rattle.md_runs.specs.Runs.{WordsName, WordsNameNone}

-- standard input, standard output and standard error
pub record Streams : Type 0 where
  pub input : Source
  pub output : Sink
  pub errors : Sink

-- nothing was read and nothing printed
abbrev pub Idle : Streams → Streams → Type 0
Idle old new = (new.input ≡ old.input) × (new.output ≡ old.output)

-- Standard error took the text whole; or it failed; or it was refused memory and took none of it.
abbrev pub Tells : Sink → Sink → List ℕ → Type 0
Tells before after text = (put : Put) × Puts before after text put

-- `line N: TEXT`, with the number of the line that is refused, or 0 where none is
abbrev pub refusal_line : RunFault → List ℕ
refusal_line fault = codes "line " ++ decimal (refused_line fault) ++ codes ": " ++ refusal_text fault ++ line_end

-- The status is 0 where a run came to its end, and standard error is untouched. It is 1 where the run is refused, and standard error is
-- told the one line of the refusal.
abbrev pub Reported : Sink → Sink → Result (Unit {0}) RunFault → ℕ → Type 0
Reported before after (Ok done) status = (status ≡ 0) × (after ≡ before)
Reported before after (Err fault) status = (status ≡ 1) × Tells before after (refusal_line fault)

-- of a text that is written, where out of memory or a fault is no line's
abbrev pub WritesText : Sink → Sink → List ℕ → Result (Unit {0}) RunFault → Type 0
WritesText before after text (Ok done) = Writes before after text (Ok done)
WritesText before after text (Err (fault.Play e)) = (e ≡ at_no_line e.kind) × Writes before after text (Err e.kind)
WritesText before after text (Err other) = ⊥

-- The words name a run, it was made in so many reads at most, and its answer reported.
pub record Ran (words : List (List ℕ)) (old new : Streams) (status : ℕ) : Type 0 where
  pub run : Run
  pub named : WordsName words run
  pub answer : Result (Unit {0}) RunFault
  pub performed : Performs run old.input new.input old.output new.output answer
  pub reads : new.input.reads ≤ old.input.reads + most_reads
  pub reported : Reported old.errors new.errors answer status

-- The words name no run, and ask for help or for the version. It was printed, or why not is reported; nothing was read.
pub record Helped (words : List (List ℕ)) (old new : Streams) (status : ℕ) : Type 0 where
  pub unnamed : WordsNameNone words
  pub unread : new.input ≡ old.input
  pub text : List ℕ
  pub answer : Result (Unit {0}) RunFault
  pub shown : WritesText old.output new.output text answer
  pub reported : Reported old.errors new.errors answer status

-- The words name no run. Standard error is told why, and the status is 2.
pub record Misspelled (words : List (List ℕ)) (old new : Streams) (status : ℕ) : Type 0 where
  pub unnamed : WordsNameNone words
  pub idle : Idle old new
  pub lines : List ℕ
  pub complain : IsComplaint (codes "maildir_cli") lines
  pub told : Tells old.errors new.errors lines
  pub refused : status ≡ 2

-- The words name no run, and memory for saying so was refused.
pub record Starved (words : List (List ℕ)) (old new : Streams) (status : ℕ) : Type 0 where
  pub unnamed : WordsNameNone words
  pub idle : Idle old new
  pub reported : Reported old.errors new.errors (Err (fault.Play (at_no_line NoMemory))) status

-- How the program ends. Words that name a run are never refused, and only these read standard input.
abbrev pub Ends : List (List ℕ) → Streams → Streams → ℕ → Type 0
Ends words old new status =
    Ran words old new status ⊎ Helped words old new status ⊎ Misspelled words old new status ⊎ Starved words old new status
