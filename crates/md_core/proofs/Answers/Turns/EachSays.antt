-- What each turn of a run says, whatever its task.
use Rattle.std.proofs.Common.{ℕ, zero, suc, ◌≡◌, ◌<◌, ◌+◌, Some, refl, sym, ap, subst, ◌∙◌, MatchOption}
use Rattle.md_core.proofs.Values.{State, DirReply, Moment, Task, Deliver, Errand, Clean, Call, Machine, working, job_at, moment_of, Run, machine_at, call_at, After, ask_of, state_by, IsRun}
use Rattle.md_jobs.specs.declared.call.Call.TheVariants as call
use Rattle.md_core.proofs.Induction.Good.{IsGood, TaskFits}
use Rattle.md_core.proofs.Machines.EachTurn.{each-turn}
use Rattle.md_core.proofs.Runs.Events.{happens-turned}
use Rattle.md_core.proofs.Induction.GoodRuns.{good-moment, kept-moment, accepted-at}
use Rattle.md_core.proofs.Runs.ByEvent.{moment-more}
use Rattle.md_core.proofs.Answers.LastStep.{IsTurn, turn_by, reply_in, after_in, left_by}
use Rattle.md_core.proofs.Answers.Turns.OneMessage.{TurnSays}
use Rattle.md_core.proofs.Answers.Turns.OfDeliver.{Undoes, DeliveryTells, delivery-says}
use Rattle.md_core.proofs.Answers.Turns.OfErrand.{errand-says}
use Rattle.md_core.proofs.Answers.Turns.OfClean.{CleanTells, cleaning-says}

-- how a delivery and a clean go on
abbrev pub UndoesTask : DirReply → Task → Type 0
UndoesTask r (Deliver d) = Undoes r d.stage
UndoesTask r task = ⊥

abbrev pub IsClean : Task → Type 0
IsClean (Clean c) = Unit {0}
IsClean task = ⊥

-- what a turn of a task says, by the directories before and after it
abbrev pub TaskSays : State → State → Call → DirReply → Task → After Task → Type 0
TaskSays s s' asked r (Deliver d) after = MatchOption after.answer (UndoesTask r after.task) (DeliveryTells d.stage r)
TaskSays s s' asked r (Clean c) after = MatchOption after.answer (IsClean after.task) (CleanTells r)
TaskSays s s' asked r (Errand e) after = TurnSays s s' asked (Errand e) r after

module _ (r : Run) (run : IsRun r) where
  pub is-good : (k : ℕ) → IsGood r.calls (machine_at r k)
  is-good k = good-moment r run each-turn k

  -- no event makes or takes away a folder
  pub folders-at : (k : ℕ) → (machine_at r k).dirs.folders ≡ r.image.folders
  folders-at =
      kept-moment r run each-turn (λ es m. m.dirs.folders ≡ r.image.folders) refl (λ es m m' e what of good g was. g.does.folders ∙ was)

  -- a call, and the task of its job at a moment
  module _ (k job : ℕ) (asked : Call) (of : call_at r.calls job ≡ Some asked) (task : Task) where
    pub fits-at : job_at (machine_at r k).jobs job ≡ Some (working task) → TaskFits (machine_at r k).dirs asked task
    fits-at there = by job of there
      where
        by : (j : ℕ) → call_at r.calls j ≡ Some asked → job_at (machine_at r k).jobs j ≡ Some (working task) →
            TaskFits (machine_at r k).dirs asked task
        by zero from at = cc
        by (suc i) from at = (is-good k).fits i asked task from at

  -- a clean is of a folder that is there
  clean-folder : (job : ℕ) (folder : ℕ) → call_at r.calls job ≡ Some (call.Clean folder) → folder < r.image.folders
  clean-folder zero folder of = cc
  clean-folder (suc i) folder of = accepted-at r run i (call.Clean folder) of

  -- what event k says, if it is a turn of this job
  module _ (k job : ℕ) (asked : Call) (of : call_at r.calls job ≡ Some asked) (t : IsTurn r k job) where
    abbrev m : Machine
    m = machine_at r k

    abbrev at : Moment
    at = moment_of m.clock t.event.event

    -- the directories after it
    pub dirs-after : (machine_at r (k + 1)).dirs ≡ state_by (ask_of (turn_by m t.event t.task).asked at.clock) m.dirs
        (reply_in m t.event t.task)
    dirs-after =
        ap (λ (x : Machine). x.dirs) (moment-more r k t.event t.at ∙ happens-turned m t.event t.task (ap (job_at m.jobs) t.own ∙ t.there))

    abbrev Says : State → Task → Type 0
    Says s' task = TaskSays m.dirs s' asked (reply_in m t.event task) task (after_in m t.event task)

    by-task : (task : Task) → TaskFits m.dirs asked task →
        Says (state_by (ask_of (turn_by m t.event task).asked at.clock) m.dirs (reply_in m t.event task)) task
    by-task (Deliver d) fits = delivery-says m.dirs t.event.event.job asked at t.event.faulted d fits
    by-task (Errand e) fits = errand-says m.dirs t.event.event.job asked at (is-good k).one_path t.event.faulted e fits
    by-task (Clean c) fits =
        cleaning-says m.dirs at t.event.faulted c
        (subst (λ (n : ℕ). c.folder < n) (sym (folders-at k)) (clean-folder job c.folder (of ∙ ap Some fits)))

    pub turn-says : TaskSays m.dirs (machine_at r (k + 1)).dirs asked (reply_in m t.event t.task) t.task (left_by r k job t)
    turn-says = subst (λ (s' : State). Says s' t.task) (sym dirs-after) (by-task t.task (fits-at k job asked of t.task t.there))
