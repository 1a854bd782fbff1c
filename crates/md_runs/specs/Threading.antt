-- What a run on threads writes of a script, and where it is refused.
use Rattle.std.specs.Prelude.{◌≡◌, ℕ, zero, suc, ◌+◌, ◌<◌, ◌==◌, ◌&&◌, ◌⊎◌, Bool, true, not, List, [], ◌∷◌, ◌++◌, None, Result, Ok, Err, All, length, is_some, codes}
use Rattle.md_jobs.specs.declared.step.Event.{Event}
use Rattle.md_core.specs.Machine.{Standing, Occurrence, job_at}
use Rattle.md_core.specs.Mailbox.{Mailbox, mailbox_of}
use Rattle.md_core.specs.Runs.{Run, dirs_of, jobs_of, failures_of, answer_of, and_events}
use Rattle.md_core.specs.Stepping.{IsRun}
use Rattle.md_script.specs.declared.error.PlayKind.TheVariants.{NoMemory}
use Rattle.md_script.specs.Kinds.{at_no_line}
use Rattle.md_script.specs.Sinks.{Sink}
use Rattle.md_script.specs.Sources.{Source}
use Rattle.md_script.specs.Texts.{line_end, answer_line, entries_text}
use Rattle.md_runs.specs.declared.fault.RunFault.{RunFault}
use Rattle.md_runs.specs.declared.fault.RunFault.TheVariants.{Play}
use Rattle.md_runs.specs.Begun.{begun_of, folders_of}
use Rattle.md_runs.specs.Indexes.{Wrote, Withheld, Refuses}
use Rattle.md_script.specs.Indexing.{listing_in}

-- `J answer A` for each of the first jobs, in their order
unfoldable pub answers_text : List Standing → ℕ → List ℕ
answers_text jobs zero = []
answers_text jobs (suc n) = answers_text jobs n ++ answer_line (n + 1) (answer_of (job_at jobs (n + 1)))

-- `folder NAME` and the lines of its listing
abbrev pub folder_text : Mailbox → ℕ → List ℕ → List ℕ
folder_text m folder name = codes "folder " ++ name ++ line_end ++ entries_text (listing_in m folder)

-- the same for folders, of which the first has this number
unfoldable pub folders_text : Mailbox → ℕ → List (List ℕ) → List ℕ
folders_text m folder [] = []
folders_text m folder (name ∷ names) = folder_text m folder name ++ folders_text m (folder + 1) names

-- the answers of the jobs, and the folders as they are at the end of the run
abbrev pub report_of : List (List ℕ) → Run → List ℕ
report_of names r = answers_text (jobs_of r) (length r.calls) ++ folders_text (mailbox_of (dirs_of r)) 0 names

-- each job has its answer
abbrev pub AllAnswered : Run → Type 0
AllAnswered r = (n : ℕ) → n < length r.calls → is_some (answer_of (job_at (jobs_of r) (n + 1))) ≡ true

-- whether a step was at moment 0, and its job had no moment of its own
abbrev pub is_at_zero : Event → Bool
is_at_zero e = (e.now == 0) && not (is_some e.own)

-- An interleaving of the jobs of a run to their answers, without a fault, which goes on by events at moment 0 alone, at which no job has a
-- moment of its own: its steps come in some order, each of a job that had no answer yet. Of any such run the interleaving theorem holds.
pub record Interleaving (begun : Run) (r : Run) : Type 0 where
  pub events : List Occurrence
  pub is : r ≡ and_events begun events
  pub at_zero : All (λ e. (e.event.now ≡ 0) × (e.event.own ≡ None)) events
  pub is_run : IsRun r
  pub faultless : failures_of r ≡ 0
  pub answered : AllAnswered r

-- What is written of a script: it sets up a store with jobs, and the text is the report of an interleaving of these.
pub record Reports (script text : List ℕ) : Type 0 where
  pub begun : Run
  pub is : begun_of script ≡ Ok begun
  pub run : Run
  pub interleaves : Interleaving begun run
  pub text_is : text ≡ report_of (folders_of script) run

-- Why the threads made no report: it rests on memory, or on what `left_right` gave.
abbrev pub IsStop : RunFault → Type 0
IsStop (Play e) = e ≡ at_no_line NoMemory
IsStop other = Unit {0}

-- a script sets up a store with jobs
abbrev pub Begins : List ℕ → Type 0
Begins script = (begun : Run) × (begun_of script ≡ Ok begun)

-- why there is no report of a script
abbrev pub IsUnreported : List ℕ → RunFault → Type 0
IsUnreported script (Play e) = (e ≡ at_no_line NoMemory) ⊎ (begun_of script ≡ Err e)
IsUnreported script other = Begins script

-- The answer of `threads`. A script that sets up a store ended as `NoReader` or `Closed`, and nothing was written.
abbrev pub RunsThreads : Source → Source → Sink → Sink → Result (Unit {0}) RunFault → Type 0
RunsThreads old new before after (Ok done) = Wrote Reports old new before after
RunsThreads old new before after (Err (Play e)) = Refuses (λ script. begun_of script ≡ Err e) old new before after e
RunsThreads old new before after (Err other) = Withheld Begins old new before after
