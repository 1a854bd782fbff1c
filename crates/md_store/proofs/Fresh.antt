-- Worlds with no event, and the first page.
use Rattle.std.proofs.Common.{◌≡◌, [], ap}
use Rattle.md_core.specs.Machine.{Machine}
use Rattle.md_core.specs.Runs.{Run, beginning, run_from, machine_of, dirs_of, effects_of}
use Rattle.md_store.specs.Locks.{IsFresh}

module _ (r : Run) (fresh : IsFresh r) where
  machine : machine_of r ≡ beginning r.image r.clock r.calls
  unfolding run_from
  machine = ap (run_from (beginning r.image r.clock r.calls)) fresh

  pub fresh-dirs : dirs_of r ≡ r.image
  fresh-dirs = ap (λ (m : Machine). m.dirs) machine

  pub fresh-effects : effects_of r ≡ []
  fresh-effects = ap (λ (m : Machine). m.effects) machine
