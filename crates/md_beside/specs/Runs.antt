-- Runs of our jobs alone, as stories: no other program takes a step.
use Rattle.std.specs.Prelude.{ℕ, suc, ◌≡◌, List, Some, map}
use Rattle.md_jobs.specs.declared.call.Call.{Call}
use Rattle.md_core.specs.Runs.{Run}
use Rattle.md_core.specs.Stepping.{IsRun}
use Rattle.md_core.specs.Trace.{Step as Taken, call_at}
use Rattle.md_core.specs.Tracing.{trace_of}
use Rattle.md_log.specs.declared.clause.Clause.{Clause}
use Rattle.md_law.specs.Law.{Breaks}
use Rattle.md_beside.specs.Story.{Story, Step, ours, asked, step_at, history}
use Rattle.md_beside.specs.Beside.{IsStory}
use Rattle.md_beside.specs.Jobs.{MayBreak}

-- a step of a run, as a story tells it
abbrev pub step_told : Taken → Step
step_told x = record { who = ours x.job; did = asked x.asked; reply = x.reply; at = x.at; answer = x.answer; effect = x.effect }

-- the story of a run, with a name for each job as an actor
abbrev pub story_of : (ℕ → List ℕ) → Run → Story
story_of actor r = record { image = r.image; clock = r.clock; calls = r.calls; actor = actor; steps = map step_told (trace_of r).steps }

-- no two jobs have one name
abbrev pub AreNames : (ℕ → List ℕ) → Type 0
AreNames actor = (i j : ℕ) → actor i ≡ actor j → i ≡ j

-- Each run is a story, so that what is said of stories is said of runs too.
abbrev pub RunsAreStories : Type 0
RunsAreStories = (r : Run) (actor : ℕ → List ℕ) → IsRun r → AreNames actor → IsStory (story_of actor r)

-- No step of a run breaks a clause of the law, but those that its job may break.
abbrev pub JobsAreLawful : Type 0
JobsAreLawful = (r : Run) (actor : ℕ → List ℕ) → IsRun r → AreNames actor
    → (k job : ℕ) (x : Step) (c : Call) (b : Clause) → step_at (story_of actor r) k ≡ Some x → x.who ≡ ours job
    → call_at r.calls job ≡ Some c → (MayBreak (story_of actor r) c b → ⊥) → Breaks b (history (story_of actor r) (suc k)) → ⊥
