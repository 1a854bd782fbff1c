-- Which tasks ask what of a path in tmp: only a delivery of its name makes it, and only that or a clean takes it away.
use Rattle.md_core.proofs.Machines.Errand.Asks.{errand-of-mail, no-create, no-unlink}
use Rattle.std.proofs.Common.{ℕ, ◌≡◌, ◌⊎◌, inl, inr, refl, subst}
use Rattle.md_core.proofs.Values.{State, Tmp, Call, Moment, Task, Deliver, Errand, Clean, Path, Delivery, Stage, Start, turn_of, Asked, create, append, link, rename, unlink, MakesMessage, errand_turn, Cleaning}
use Rattle.md_jobs.specs.declared.call.Call.TheVariants as call
use Rattle.md_jobs.specs.Tasks.Cleaning as cleaning
use Rattle.md_jobs.specs.Machines.Deliver as delivered_by
use Rattle.md_jobs.specs.Machines.Clean as cleaned_by
use Rattle.md_core.proofs.Induction.Good.{TaskFits, DeliveryFits}
use Rattle.md_core.proofs.Directories.Frames.{makes-delivery}
use Rattle.md_core.proofs.Answers.Files.Tmp.{LeavesTmp}
use Rattle.md_core.proofs.Machines.Errand.Table.Deeds.{IsOfMail}
use Rattle.md_jobs.proofs.Cases.{by-delivery}

-- what a delivery asks, by its stage: a path of tmp is made at its start alone, and taken away later
module _ (number : ℕ) (d : Delivery) (at : Moment) where
  abbrev pub asked_at : Stage → Asked
  asked_at stage = (delivered_by.stage_turn number d at stage).asked

  delivery-leaves : (stage : Stage) → LeavesTmp (asked_at stage)
  delivery-leaves = by-delivery number d at (λ stage turn. LeavesTmp turn.asked)
      tt (λ start k more. tt) (λ start k all. refl) (λ start k. tt) tt (λ x. tt)

  delivery-creates : (p : Path) (stage : Stage) → asked_at stage ≡ create p → (stage ≡ Start) × (d.tmp ≡ p)
  delivery-creates p = by-delivery number d at (λ stage turn. turn.asked ≡ create p → (stage ≡ Start) × (d.tmp ≡ p))
      (λ is. (refl, cc)) (λ start k more is. cc) (λ start k all is. cc) (λ start k is. cc) (λ is. cc) (λ x is. cc)

  pub delivery-unlinks : (p : Path) (stage : Stage) → asked_at stage ≡ unlink p → d.tmp ≡ p
  delivery-unlinks p = by-delivery number d at (λ stage turn. turn.asked ≡ unlink p → d.tmp ≡ p)
      (λ is. cc) (λ start k more is. cc) (λ start k all is. cc) (λ start k is. cc) (λ is. cc) (λ x is. cc)

-- what other tasks ask leaves tmp alone, but for the unlinks of a clean
mail-leaves : (asked : Asked) → IsOfMail asked → LeavesTmp asked
mail-leaves (rename old new) mail = mail
mail-leaves (link old new) mail = mail
mail-leaves (create p) mail = absurd mail
mail-leaves (append p bytes) mail = absurd mail
mail-leaves other mail = tt

cleaning-leaves : (c : Cleaning) (own : ℕ) (stage : cleaning.Stage) → LeavesTmp (cleaned_by.stage_turn c own stage).asked
cleaning-leaves c own cleaning.Look = tt
cleaning-leaves c own (cleaning.Remove name rest files) = tt

pub asks-fair : (s : State) (asked : Call) (number : ℕ) (task : Task) (at : Moment) → TaskFits s asked task →
    LeavesTmp (turn_of number task at).asked
asks-fair s asked number (Deliver d) at fits = delivery-leaves number d at d.stage
asks-fair s asked number (Errand e) at fits = mail-leaves (errand_turn number e).asked (errand-of-mail number e fits.stage)
asks-fair s asked number (Clean c) at fits = cleaning-leaves c at.own c.stage

cleaning-creates : (c : Cleaning) (own : ℕ) (p : Path) (stage : cleaning.Stage) → (cleaned_by.stage_turn c own stage).asked ≡ create p → ⊥
cleaning-creates c own p cleaning.Look is = cc
cleaning-creates c own p (cleaning.Remove name rest files) is = cc

-- the name of a path that a delivery asks for is one that its call makes
delivery-makes : (s : State) (asked : Call) (d : Delivery) (p : Path) → DeliveryFits s asked d → d.tmp ≡ p → MakesMessage asked p.name
delivery-makes s asked d p fits is = subst (λ (q : Path). MakesMessage asked q.name) is (makes-delivery s asked d fits)

module _ (s : State) (asked : Call) (number : ℕ) (at : Moment) (p : Path) (in_tmp : p.place ≡ Tmp) where
  -- a delivery at its start made the path
  pub creates : (task : Task) → TaskFits s asked task → (turn_of number task at).asked ≡ create p →
      MakesMessage asked p.name × ((d : Delivery) × (task ≡ Deliver d) × (d.stage ≡ Start) × (d.tmp ≡ p))
  creates (Deliver d) fits is =
      let h = delivery-creates number d at p d.stage is in (delivery-makes s asked d p fits h.1, (d, refl, h.0, h.1))
  creates (Errand e) fits is = absurd (no-create (errand_turn number e).asked p (errand-of-mail number e fits.stage) is)
  creates (Clean c) fits is = absurd (cleaning-creates c at.own p c.stage is)

  -- a delivery of its name or a clean took it away
  pub unlinks : (task : Task) → TaskFits s asked task → (turn_of number task at).asked ≡ unlink p →
      MakesMessage asked p.name ⊎ ((folder : ℕ) × (asked ≡ call.Clean folder))
  unlinks (Deliver d) fits is = inl (delivery-makes s asked d p fits (delivery-unlinks number d at p d.stage is))
  unlinks (Errand e) fits is = absurd (no-unlink (errand_turn number e).asked p in_tmp (errand-of-mail number e fits.stage) is)
  unlinks (Clean c) fits is = inr (c.folder, fits)
