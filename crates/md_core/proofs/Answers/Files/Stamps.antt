-- A file at the path in tmp of a delivery is its own: the delivery has begun, and the file's stamp is at least the clock of its first step.
use Rattle.std.proofs.Common.{ℕ, zero, suc, ◌≡◌, ◌≤◌, ◌+◌, inl, inr, List, Some, None, refl, sym, ap, subst, ◌∙◌, length, arith}
use Rattle.md_core.proofs.Values.{State, file_at, Path, Tmp, Task, path_of as path, Stage, Machine, Run, machine_at, first_step, call_at, IsStepOf, IsRun, trace_of}
use Rattle.md_jobs.specs.declared.call.Call.TheVariants.{Deliver}
use Rattle.md_core.proofs.Induction.Good.{IsUnused}
use Rattle.md_core.proofs.Runs.ByEvent.{moment-start}
use Rattle.md_core.proofs.Answers.LastStep.{IsTurn, is_within}
use Rattle.md_core.proofs.Answers.Moments.{at, next-clock, clock-grows, each-moment, first-is}
use Rattle.md_core.proofs.Answers.Files.Tmp.{KeepsPath, stamp_at}
use Rattle.md_core.proofs.Answers.Files.Touched.{IsMade, touched}
use Rattle.md_core.proofs.Answers.Files.Writing.{AtStage, AtTask, at-task}
use Rattle.md_core.proofs.Induction.GoodRuns.{accepted-at}

-- a job has begun, and the clock and the stamp of a file are at least the clock of its first step
pub record IsStamped (r : Run) (job k n : ℕ) : Type 0 where
  pub begun : IsStepOf (trace_of r) job (first_step r job)
  pub clocked : begun.step.at.clock ≤ (machine_at r k).clock
  pub stamped : begun.step.at.clock ≤ stamp_at (machine_at r k).dirs n

-- no path uses the name of a delivery at the beginning
unused-at : (r : Run) → IsRun r → (job folder : ℕ) (u body : List ℕ) (chunk : ℕ) →
    call_at r.calls job ≡ Some (Deliver folder u body chunk) → IsUnused r.image u
unused-at r run zero folder u body chunk of = cc
unused-at r run (suc i) folder u body chunk of = (accepted-at r run i (Deliver folder u body chunk) of).2.unused

module _ (r : Run) (run : IsRun r) (job folder : ℕ) (u body : List ℕ) (chunk : ℕ)
    (of : call_at r.calls job ≡ Some (Deliver folder u body chunk)) where
  abbrev p : Path
  p = path folder Tmp u

  abbrev Stamped : ℕ → Type 0
  Stamped k = (n : ℕ) → file_at (machine_at r k).dirs p ≡ Some n → IsStamped r job k n

  stamped-start : Stamped 0
  stamped-start n is =
      let none : file_at (machine_at r 0).dirs p ≡ None =
      ap (λ (m : Machine). file_at m.dirs p) (moment-start r) ∙ unused-at r run job folder u body chunk of p refl in
      cc

  module _ (k n : ℕ) (t : IsTurn r k n) (before : Stamped k) (file : ℕ) (is : file_at (machine_at r (k + 1)).dirs p ≡ Some file) where
    abbrev s : State
    s = (machine_at r k).dirs

    abbrev s' : State
    s' = (machine_at r (k + 1)).dirs

    abbrev clock : ℕ
    clock = (at r k n t).clock

    kept : KeepsPath s s' p clock → IsStamped r job (k + 1) file
    kept keeps =
        let was = sym keeps.names ∙ is in
        let h = before file was in
        let clocked = h.clocked in
        let stamped = h.stamped in
        let now = next-clock r k n t in
        let grows = clock-grows r k n t in
        record {
          begun = h.begun;
          clocked = omega (arith, clocked, now, grows);
          stamped = elim (keeps.stamps file was) [ inl same ↦ omega (arith, stamped, same) | inr new ↦ omega (arith, clocked, new, grows) ];
        }

    made : IsMade r k n job t p → IsStamped r job (k + 1) file
    made m =
        let stage : AtTask r k n t.task = at-task r run k n t.task (let within = is_within r k n t in omega (arith, within)) t.there in
        let task : AtStage r k n m.delivery.tmp m.delivery.stage = subst (λ (x : Task). AtTask r k n x) m.task stage in
        let none : k ≤ first_step r n = subst (λ (x : Stage). AtStage r k n m.delivery.tmp x) m.starts task in
        let none' : k ≤ first_step r job = subst (λ (j : ℕ). k ≤ first_step r j) (sym m.own) none in
        let now = next-clock r k n t in
        let stamp = m.makes.stamps file is in
        record {
          begun = first-is r k n job t none' run m.own;
          clocked = omega (arith, now);
          stamped = omega (arith, stamp);
        }

    stamped-turn : IsStamped r job (k + 1) file
    stamped-turn = elim (touched r run k n t job (Deliver folder u body chunk) of p refl refl) [
      | inl keeps ↦ kept keeps
      | inr other ↦ elim other [ inl m ↦ made m | inr gone ↦ (let none = gone.0 in cc) ]
    ]

  pub stamped-at : (k : ℕ) → k ≤ length r.events → Stamped k
  stamped-at = each-moment r run Stamped stamped-start stamped-turn
