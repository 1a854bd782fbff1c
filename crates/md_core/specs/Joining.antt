-- Two histories as one: a store goes on from the directories that another one left, with its jobs numbered after those of that one.
use Rattle.std.specs.Prelude.{ℕ, ◌≡◌, ◌+◌, ◌≤◌, ◌<◌, ◌++◌, List, Some, map, take, slice_get}
use Rattle.std.specs.FinMap as finmap
use Rattle.md_name.specs.Names.{unique_of}
use Rattle.md_jobs.specs.declared.effect.Change.{Change}
use Rattle.md_jobs.specs.declared.effect.Change.TheVariants.{Add}
use Rattle.md_jobs.specs.declared.effect.Effect.{Effect}
use Rattle.md_core.specs.History.{Listed, Names, names_after}

-- the same effect, of a job whose number is so many greater
abbrev pub job_after : ℕ → Effect → Effect
job_after n e = record e { job = n + e.job }

-- the same effects, of jobs whose numbers are so many greater
abbrev pub numbered_after : ℕ → List Effect → List Effect
numbered_after n effects = map (job_after n) effects

-- the earlier history, and then the later one, its jobs numbered after so many
abbrev pub joined : ℕ → List Effect → List Effect → List Effect
joined jobs earlier later = earlier ++ numbered_after jobs later

-- a change adds a message under this unique name
abbrev pub AddsName : Change → List ℕ → Type 0
AddsName (Add folder place name size) u = unique_of name ≡ u
AddsName c u = ⊥

-- A name is used again: a later effect adds a message under a unique name that a message had at some moment of the earlier history.
pub record UsesAgain (opening : Names) (earlier later : List Effect) : Type 0 where
  pub unique : List ℕ
  pub i : ℕ
  pub effect : Effect
  pub at : slice_get later i ≡ Some effect
  pub adds : AddsName effect.change unique
  pub k : ℕ
  pub message : Listed
  pub had : finmap.get (names_after opening (take k earlier)) unique ≡ Some message

-- no job of a history has a greater number
abbrev pub HasJobsTo : ℕ → List Effect → Type 0
HasJobsTo jobs history = (i : ℕ) (e : Effect) → slice_get history i ≡ Some e → e.job ≤ jobs

-- the jobs of a history are numbered from 1
abbrev pub HasJobsFromOne : List Effect → Type 0
HasJobsFromOne history = (i : ℕ) (e : Effect) → slice_get history i ≡ Some e → 0 < e.job
