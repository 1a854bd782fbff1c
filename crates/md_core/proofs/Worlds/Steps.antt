-- One step of a world: what it shows, and that a successful answer has its effect.
use Rattle.std.proofs.Common.{◌≡◌, ◌∙◌, Option, Some, None, refl, sym, ap, subst}
use Rattle.md_core.proofs.Values.{Answer, Task, StepOut, Machine, working, answered, Occurrence, job_at, standing_of, step_of, step_by, step_out, Step, call_at, Run, machine_of, jobs_of, and_event, step_refusal, IsRun, ShowsStep, Succeeds, option_map}
use Rattle.md_core.proofs.Theorem.RunLaw.{RunLaw}
use Rattle.md_core.proofs.Induction.Good.{EachTurn}
use Rattle.md_core.proofs.Runs.Events.{goes_on-exact, done-turned}
use Rattle.md_core.proofs.Runs.ByEvent.{machine-and_event}
use Rattle.md_core.proofs.Induction.Going.{Goes, goes, goes-here}
use Rattle.md_core.proofs.Induction.GoodRuns.{good-machine}
use Rattle.md_core.proofs.Theorem.LawHolds.{simulates, run-law}
use Rattle.md_core.proofs.Machines.EachTurn.{each-turn}
use Rattle.md_core.proofs.Runs.Extended.{is_run-and_event}

module _ (turns : EachTurn) (r : Run) (run : IsRun r) (e : Occurrence) (goes_on : step_refusal (job_at (jobs_of r) e.event.job) ≡ None) where
  waits : (task : Task) × (job_at (jobs_of r) e.event.job ≡ Some (working task))
  waits = (goes_on-exact (job_at (jobs_of r) e.event.job)).0 goes_on

  abbrev what : Step
  what = step_by (machine_of r) e waits.0

  going : Goes r.calls (machine_of r) (machine_of (and_event r e)) what
  going = subst (λ (m : Machine). Goes r.calls (machine_of r) m what) (sym (machine-and_event r e))
      (goes turns r.calls (machine_of r) e waits.0 (good-machine r run turns) waits.1)

  called : call_at r.calls e.event.job ≡ Some going.asked
  called = ap (call_at r.calls) going.number_is ∙ going.of

  -- what is shown of the step
  module _ (out : StepOut) (shown : option_map step_out (step_of (machine_of r) e) ≡ Some out) where
    same : step_out what ≡ out
    same = let h : Some (step_out what) ≡ Some out = ap (option_map step_out) (sym (done-turned (machine_of r) e waits.0 waits.1)) ∙ shown in cc

    pub shows : ShowsStep r (and_event r e) e out
    shows = record {
      what = what;
      at = done-turned (machine_of r) e waits.0 waits.1;
      shown = sym same;
      call = going.asked;
      of = called;
      simulates = simulates r.calls (machine_of r) (machine_of (and_event r e)) what going;
    }

    -- the job after the step
    there : job_at (jobs_of (and_event r e)) e.event.job ≡ Some (standing_of going.task' what.answer)
    there = ap (job_at (jobs_of (and_event r e))) going.number_is ∙ goes-here r.calls (machine_of r) (machine_of (and_event r e)) what going

    pub succeeds : RunLaw (and_event r e) → Succeeds (and_event r e) e.event.job out.answer
    succeeds theorem = by out.answer (ap (λ (o : StepOut). o.answer) same)
      where
        by : (o : Option Answer) → what.answer ≡ o → Succeeds (and_event r e) e.event.job o
        by None is = tt
        by (Some a) is = λ success.
            (theorem.jobs e.event.job going.asked (answered a) called (there ∙
            ap (λ (x : Option Answer). Some (standing_of going.task' x)) is)).success a refl success

-- an answer of success that a step of a world shows has its effect
pub succeeds-shown : (r r' : Run) → IsRun r → (e : Occurrence) (out : StepOut) → r' ≡ and_event r e →
    step_refusal (job_at (jobs_of r) e.event.job) ≡ None → ShowsStep r r' e out → Succeeds r' e.event.job out.answer
succeeds-shown r r' run e out is goes_on h =
    subst (λ (x : Run). Succeeds x e.event.job out.answer) (sym is)
    (succeeds each-turn r run e goes_on out (ap (option_map step_out) h.at ∙ ap Some (sym h.shown))
    (run-law each-turn (and_event r e) (is_run-and_event r e run goes_on)))
