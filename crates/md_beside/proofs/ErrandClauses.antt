-- The readings of an errand are answered as directories are, and one that looks in one place alone lists no other.
use Rattle.std.proofs.Common.{ℕ, ◌≡◌, ◌<◌, List, Some, false, refl, sym, ap, subst, ◌∙◌}
use Rattle.md_dirs.specs.State.{State}
use Rattle.md_dirs.specs.declared.paths.Place.{Place}
use Rattle.md_dirs.specs.declared.paths.Place.TheVariants.{New, Cur}
use Rattle.md_dirs.specs.declared.rows.Row.{Row}
use Rattle.md_jobs.specs.Machines.Errand.{asked_of, stage_turn}
use Rattle.md_jobs.specs.Machines.Purposes.{first, searches, info_in, deed_by}
use Rattle.md_jobs.specs.Tasks.Errand.{Stage, Look, Act}
use Rattle.md_jobs.specs.declared.call.Call.{Call}
use Rattle.md_jobs.specs.declared.call.Call.TheVariants as call
use Rattle.md_jobs.specs.declared.purpose.Purpose.{Purpose}
use Rattle.md_jobs.specs.declared.purpose.Purpose.TheVariants.{Seen, Flag, Move, Copy, Expunge}
use Rattle.md_core.proofs.Induction.Good.{ErrandFits}
use Rattle.md_core.proofs.Machines.Errand.Table.Calls.{call_by, on}
use Rattle.md_core.proofs.Machines.Errand.Table.Rows.{one-place}
use Rattle.md_law.specs.Clauses.{NotADirectory}
use Rattle.md_law.specs.Readings.{nothing_read}
use Rattle.md_beside.specs.Story.{Story, Step, asked, step_at, state}
use Rattle.md_beside.specs.Beside.{IsStory}
use Rattle.md_beside.specs.Jobs.{LooksInBoth}
use Rattle.md_beside.proofs.Histories.{next_at}
use Rattle.md_beside.proofs.Readings.{NeverOther, ListsAlone, reads-rightly}
use Rattle.md_beside.proofs.Replies.{IsNoReading, is-directory}

-- the place that an errand looks in which looks in one alone
abbrev pub looks : Call → Place
looks (call.Seen folder u flags tries) = New
looks c = Cur

-- which errands do
pub single : (p : Purpose) (folder : ℕ) (u : List ℕ) (tries : ℕ) → (LooksInBoth (call_by folder u p tries) → ⊥) → searches p ≡ false
single (Seen given) folder u tries not = refl
single (Flag add remove) folder u tries not = refl
single (Move to) folder u tries not = absurd (not tt)
single (Copy to fresh) folder u tries not = absurd (not tt)
single Expunge folder u tries not = refl

looks-first : (p : Purpose) → searches p ≡ false → (folder : ℕ) (u : List ℕ) (tries : ℕ) → looks (call_by folder u p tries) ≡ first p
looks-first (Seen given) alone folder u tries = refl
looks-first (Flag add remove) alone folder u tries = refl
looks-first (Move to) alone folder u tries = cc
looks-first (Copy to fresh) alone folder u tries = cc
looks-first Expunge alone folder u tries = refl

-- before its first reading it has read neither
pub reads-neither : (c : Call) → NeverOther (looks c) nothing_read
reads-neither (call.Seen folder u flags tries) = refl
reads-neither other = refl

module _ (s : State) (job : ℕ) (c : Call) (folder : ℕ) (u : List ℕ) where
  deed-alone : (p : Purpose) (place at : Place) (row : Row) →
      ListsAlone at (asked_of (deed_by p folder u place row.name (info_in row.name)))
  deed-alone (Seen given) place at row = tt
  deed-alone (Flag add remove) place at row = tt
  deed-alone (Move to) place at row = tt
  deed-alone (Copy to fresh) place at row = tt
  deed-alone Expunge place at row = tt

  pub turn-alone : (p : Purpose) → searches p ≡ false → (stage : Stage) → ErrandFits s c (on folder u p stage) →
      ListsAlone (looks c) (stage_turn job (on folder u p stage) stage).asked
  turn-alone p alone (Look place tries) fits = one-place p place alone fits.stage
      ∙ sym (looks-first p alone folder u fits.tries) ∙ ap looks (sym fits.of)
  turn-alone p alone (Act place row tries) fits = deed-alone p place (looks c) row

  deed-plain : (p : Purpose) (place : Place) (row : Row) → IsNoReading (asked_of (deed_by p folder u place row.name (info_in row.name)))
  deed-plain (Seen given) place row = tt
  deed-plain (Flag add remove) place row = tt
  deed-plain (Move to) place row = tt
  deed-plain (Copy to fresh) place row = tt
  deed-plain Expunge place row = tt

  module _ (t : Story) (story : IsStory t) (k : ℕ) (x : Step) (is : step_at t k ≡ Some x) (here : s ≡ state t k) where
    -- it is answered as the directories answer it
    pub turn-rightly : (p : Purpose) (stage : Stage) → ErrandFits s c (on folder u p stage) →
        x.did ≡ asked (stage_turn job (on folder u p stage) stage).asked → NotADirectory (next_at t k x) → ⊥
    turn-rightly p (Look place tries) fits did =
        reads-rightly t story k x is folder place did (subst (λ (s' : State). folder < s'.folders) here fits.in_folder)
    turn-rightly p (Act place row tries) fits did =
        is-directory t story k x is (asked_of (deed_by p folder u place row.name (info_in row.name))) did (deed-plain p place row)
