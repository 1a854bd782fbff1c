-- Runs that go on from earlier ones.
use Rattle.std.specs.Prelude.{◌≡◌, List, ◌++◌}
use mathlib.Core.List.{IsPrefix}
use Rattle.md_dirs.specs.State.{bare}
use Rattle.md_dirs.specs.Calls.{fresh}
use Rattle.md_jobs.specs.declared.call.Call.{Call}
use Rattle.md_core.specs.Machine.{Occurrence}
use Rattle.md_core.specs.Runs.{Run, new_run, effects_of}

-- the run of no store
abbrev pub no_run : Run
no_run = new_run (fresh (bare 0))

-- the run goes on from the one that the store was opened with: calls may have been submitted since, and steps taken
pub record IsSince (begun run : Run) : Type 0 where
  pub calls : List Call
  pub events : List Occurrence
  pub is : run ≡ record begun { calls = begun.calls ++ calls; events = begun.events ++ events }

-- the later run goes on from the earlier one, and so does its history
pub record GoesOn (early late : Run) : Type 0 where
  pub since : IsSince early late
  pub history : IsPrefix (effects_of early) (effects_of late)
