-- What holds of the directories of a world.
use Rattle.std.proofs.Common.{ℕ, List, Bool, sym, subst}
use Rattle.md_core.proofs.Values.{Effect, Event, Machine, Run, Covers, Device, HasOnePath, JobView, Used, IsWorld, run_of, machine_by}
use Rattle.md_core.proofs.Induction.Good.{IsGood}
use Rattle.md_core.proofs.Induction.GoodRuns.{good-machine}
use Rattle.md_core.proofs.Machines.EachTurn.{each-turn}

module _ (first : Device) (began : ℕ) (jobs : List JobView) (events : List Event) (marks : List Bool) (held : Device) (clock : ℕ) (effects : List Effect)
    (used : Used) (world : IsWorld (run_of first began jobs events marks) (machine_by held clock jobs effects) held used events marks) where
  abbrev run : Run
  run = run_of first began jobs events marks

  -- all is good of what a world keeps
  pub good-kept : IsGood run.calls (machine_by held clock jobs effects)
  good-kept = subst (IsGood run.calls) (sym world.now) (good-machine run world.run each-turn)

  pub one-path : HasOnePath held.state
  one-path = good-kept.one_path

  -- the names that are kept have all that they use
  pub covered : Covers held.state used
  covered = subst (λ (m : Machine). Covers m.dirs used) (sym world.now) world.names.covers
