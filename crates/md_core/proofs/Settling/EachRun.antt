-- The directories of a run load at each moment, and none of their stamps is past the clock; so a run may begin again with them.
use Rattle.std.proofs.Common.{ℕ, zero, suc, ◌≡◌, ◌≤◌, ◌+◌, List, Some, None, true, sym, subst, length, take, arith}
use Rattle.md_core.proofs.Values.{State, Call, is_unique_name, Machine, HasOnePath, Run, first_clock, machine_at, machine_of, dirs_of, failures_of, calls_made_of, IsRun, call_at, MakesMessage, load_refusal, settled}
use Rattle.md_core.proofs.Answers.LastStep.{IsTurn, turn_by, reply_in}
use Rattle.md_core.proofs.Answers.Moments.{at, its-call, its-fits, sound-now, next-dirs, next-clock, clock-grows, each-moment}
use Rattle.md_core.proofs.Induction.GoodRuns.{good-machine, accepted-at}
use Rattle.md_core.proofs.Machines.EachTurn.{each-turn}
use Rattle.md_core.proofs.Runs.ByEvent.{moment-start, moment-end}
use Rattle.md_core.proofs.Runs.Extended.{is_run-begun}
use Rattle.md_core.proofs.Settling.Loadable.{IsLoadable, loaded-loadable, loadable-loads, loadable-clock}
use Rattle.md_core.proofs.Settling.Leaving.{leaves}
use Rattle.md_core.proofs.Settling.Asks.{asks-good}
use Rattle.md_core.proofs.Machines.Errand.Table.Checks.{makes-fresh}

module _ (r : Run) (run : IsRun r) where
  -- a call that was accepted makes only a unique name
  valid-at : (job : ℕ) (call : Call) → call_at r.calls job ≡ Some call → (u : List ℕ) → MakesMessage call u → is_unique_name u ≡ true
  valid-at zero call of = cc
  valid-at (suc i) call of = λ u is. (makes-fresh r.image (take i r.calls) call u (accepted-at r run i call of) is).valid

  abbrev Loads : ℕ → Type 0
  Loads k = IsLoadable (machine_at r k).dirs (machine_at r k).clock

  loads-start : Loads 0
  loads-start = subst (λ (m : Machine). IsLoadable m.dirs m.clock) (sym (moment-start r)) (loaded-loadable r.image r.clock run.loaded run.stamped)

  loads-turn : (k n : ℕ) → IsTurn r k n → Loads k → Loads (k + 1)
  loads-turn k n t before =
      let m = machine_at r k in
      let clock = (at r k n t).clock in
      let its = its-call r run k n _ t.there in
      let good = asks-good m.dirs m.clock before its.0 (valid-at n its.0 its.1) t.event.event.job t.task (at r k n t)
      (its-fits r run k n its.0 t.task its.1 t.there) in
      let after = leaves m.dirs (sound-now r run k) m.clock clock (clock-grows r k n t) before (turn_by m t.event t.task).asked (reply_in m t.event t.task)
      good in
      subst (λ (c : ℕ). IsLoadable (machine_at r (k + 1)).dirs c) (sym (next-clock r k n t))
      (subst (λ (s : State). IsLoadable s clock) (sym (next-dirs r k n t)) after)

  loads-last : IsLoadable (dirs_of r) (machine_of r).clock
  loads-last = subst (λ (m : Machine). IsLoadable m.dirs m.clock) (moment-end r)
      (each-moment r run Loads loads-start loads-turn (length r.events) (omega arith))

  one-path : HasOnePath (dirs_of r)
  one-path = (good-machine r run each-turn).one_path

  pub run-loads : load_refusal (dirs_of r) ≡ None
  run-loads = loadable-loads (dirs_of r) (machine_of r).clock loads-last one-path

  pub run-stamped : first_clock (dirs_of r) ≤ (machine_of r).clock
  run-stamped = loadable-clock (dirs_of r) (machine_of r).clock loads-last

  pub is_run-settled : IsRun (settled r)
  is_run-settled = is_run-begun (dirs_of r) (machine_of r).clock (failures_of r) (calls_made_of r) (good-machine r run each-turn).sound run-loads run-stamped
