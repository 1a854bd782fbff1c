-- What a run reads, prints and answers.
use Rattle.std.specs.Prelude.{Result, Ok, Err}
use Rattle.md_script.specs.declared.error.PlayError.{PlayError}
use Rattle.md_script.specs.Play.{Plays}
use Rattle.md_script.specs.Sinks.{Sink}
use Rattle.md_script.specs.Sources.{Source}
use Rattle.md_runs.specs.declared.fault.RunFault.{RunFault}
use Rattle.md_runs.specs.declared.fault.RunFault.TheVariants as fault
use Rattle.md_runs.specs.declared.words.Run.{Run}
use Rattle.md_runs.specs.declared.words.Run.TheVariants.{Play, Threads, Index}
use Rattle.md_runs.specs.Indexes.{Indexes}
use Rattle.md_runs.specs.Threading.{RunsThreads}

-- of a run that is refused as a script is
abbrev pub OfScript : (Result (Unit {0}) PlayError → Type 0) → Result (Unit {0}) RunFault → Type 0
OfScript Answers (Ok done) = Answers (Ok done)
OfScript Answers (Err (fault.Play e)) = Answers (Err e)
OfScript Answers (Err other) = ⊥

-- what a run reads, prints and answers
abbrev pub Performs : Run → Source → Source → Sink → Sink → Result (Unit {0}) RunFault → Type 0
Performs Play old new before after = OfScript (Plays old new before after)
Performs (Threads n) old new before after = RunsThreads old new before after
Performs (Index n) old new before after = OfScript (Indexes old new before after)
