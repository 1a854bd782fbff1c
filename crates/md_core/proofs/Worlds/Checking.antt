-- What a world's fields say of the checks of its run.
use Rattle.std.proofs.Common.{ℕ, ◌≡◌, ◌∙◌, List, Bool, ap}
use Rattle.md_core.proofs.Values.{Effect, Event, Machine, Run, Device, JobView, Used, IsWorld, run_of, machine_by}
use Rattle.md_core.proofs.Machines.EachTurn.{each-turn}
use Rattle.md_core.proofs.Theorem.LawHolds.{folders-stay}

module _ (first : Device) (began : ℕ) (jobs : List JobView) (events : List Event) (marks : List Bool) (held : Device) (clock : ℕ) (effects : List Effect)
    (used : Used) (r : Run)
    (view : run_of first began jobs events marks ≡ r)
    (world : IsWorld (run_of first began jobs events marks) (machine_by held clock jobs effects) held used events marks) where
  pub folders-are : held.state.folders ≡ r.image.folders
  folders-are = ap (λ (m : Machine). m.dirs.folders) world.now ∙ folders-stay each-turn (run_of first began jobs events marks) world.run ∙
      ap (λ (x : Run). x.image.folders) view
