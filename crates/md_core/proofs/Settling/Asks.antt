-- The path that the directory call of a task makes has no fault by itself: a delivery and a copy make one of a fresh unique name, a change
-- of flags one of the message's, and a move keeps the name.
use Rattle.std.proofs.Common.{ℕ, ◌≡◌, List, true}
use Rattle.md_core.proofs.Values.{State, Call, Moment, Task, Deliver, Errand, Clean, is_unique_name, turn_of, Delivery, Stage, MakesMessage, target, info_in, Cleaning}
use Rattle.md_jobs.specs.Machines.Clean as cleaned_by
use Rattle.md_jobs.specs.Machines.Errand as errands_by
use Rattle.md_jobs.specs.Tasks.Cleaning as cleaning
use Rattle.md_jobs.specs.Tasks.Errand as errand
use Rattle.md_core.proofs.Answers.Files.Asking.{asked_at}
use Rattle.md_core.proofs.Induction.Good.{TaskFits}
use Rattle.md_core.proofs.Directories.Frames.{makes-delivery}
use Rattle.md_core.proofs.Settling.Loadable.{IsLoadable}
use Rattle.md_core.proofs.Settling.Leaving.{MakesGood}
use Rattle.md_core.proofs.Settling.Names.{unique-good}
use Rattle.md_core.proofs.Machines.Errand.Table.Calls.{IsFor}
use Rattle.md_core.proofs.Machines.Errand.Table.Loads.{deed-good}
use Rattle.md_jobs.proofs.Cases.{by-delivery}

module _ (s : State) (clock : ℕ) (h : IsLoadable s clock) where
  delivery-good : (number : ℕ) (d : Delivery) (at : Moment) → is_unique_name d.tmp.name ≡ true → (stage : Stage) → MakesGood s (asked_at number d at stage)
  delivery-good number d at valid = by-delivery number d at (λ stage turn. MakesGood s turn.asked) (unique-good d.tmp valid)
      (λ start k more. tt) (λ start k all. unique-good (target d) valid) (λ start k. tt) tt (λ x. tt)

  errand-good : (number : ℕ) (e : errand.Errand) → is_unique_name e.unique ≡ true → IsFor e.folder e.purpose → (stage : errand.Stage) →
      MakesGood s (errands_by.stage_turn number e stage).asked
  errand-good number e valid for (errand.Look place tries) = tt
  errand-good number e valid for (errand.Act place row tries) =
      deed-good s clock h e.purpose e.folder e.unique place row.name (info_in row.name) valid for

  cleaning-good : (c : Cleaning) (own : ℕ) (stage : cleaning.Stage) → MakesGood s (cleaned_by.stage_turn c own stage).asked
  cleaning-good c own cleaning.Look = tt
  cleaning-good c own (cleaning.Remove name rest files) = tt

  pub asks-good : (asked : Call) → ((u : List ℕ) → MakesMessage asked u → is_unique_name u ≡ true) → (number : ℕ) (task : Task) (at : Moment) →
      TaskFits s asked task → MakesGood s (turn_of number task at).asked
  asks-good asked valid number (Deliver d) at fits = delivery-good number d at (valid d.tmp.name (makes-delivery s asked d fits)) d.stage
  asks-good asked valid number (Errand e) at fits = errand-good number e fits.valid fits.is_for e.stage
  asks-good asked valid number (Clean c) at fits = cleaning-good c at.own c.stage
