-- What a step of ours does in a story: what md_core's turn does, whatever others did before it.
use Rattle.std.proofs.Common.{ℕ, suc, ◌≡◌, inl, inr, List, Some, true, false, sym, ap, subst, ◌∙◌}
use Rattle.md_dirs.specs.State.{State, IsSound}
use Rattle.md_jobs.specs.Asked.{Asked, ask_of, state_by}
use Rattle.md_jobs.specs.Turn.{After, rows_for}
use Rattle.md_jobs.specs.declared.call.Call.{Call}
use Rattle.md_jobs.specs.declared.step.DirReply.{DirReply}
use Rattle.md_core.specs.Tasks.Task.{Task}
use Rattle.md_core.specs.Machine.{turn_of}
use Rattle.md_core.specs.Mailbox.{HasOnePath, mailbox_of}
use Rattle.md_core.specs.Stepping.{AsAlone}
use Rattle.md_core.proofs.Induction.Good.{Does, TaskFits, Found, HasSize}
use Rattle.md_core.proofs.Machines.EachTurn.{each-turn}
use Rattle.md_beside.specs.Story.{Story, Step, Did, asked, ours, step_at, after_did, state, box, IsTurn}
use Rattle.md_beside.specs.Beside.{IsStory, reply_due}
use Rattle.md_beside.proofs.Histories.{state-more}

-- a step that makes the call of a task's turn
module _ (t : Story) (story : IsStory t) (k job : ℕ) (x : Step) (is : step_at t k ≡ Some x) (c : Call) (task : Task)
    (makes : x.did ≡ asked (turn_of job task x.at).asked) where
  abbrev made : Asked
  made = (turn_of job task x.at).asked

  abbrev after : DirReply → After Task
  after r = (turn_of job task x.at).follows r (rows_for made (state t k))

  -- what the turn does by a reply
  abbrev DoesBy : DirReply → Type 0
  DoesBy r = Does (state t k) (state_by (ask_of made x.at.clock) (state t k) r) job c task made r (after r)

  module _ (sound : IsSound (state t k)) (one : HasOnePath (state t k)) (fits : TaskFits (state t k) c task)
      (known : (u : List ℕ) (size : ℕ) → Found task u size → HasSize (mailbox_of (state t k)) u size) where
    replied : DoesBy x.reply
    replied = elim (story.replied k x is) as (λ _. DoesBy x.reply) [
      | inl due ↦ subst DoesBy (sym (due ∙ ap (λ (d : Did). reply_due (state t k) d x.at.clock) makes))
          (each-turn (state t k) job c task x.at false sound one fits known)
      | inr fault ↦ subst DoesBy (sym fault) (each-turn (state t k) job c task x.at true sound one fits known)
    ]

    next : state_by (ask_of made x.at.clock) (state t k) x.reply ≡ state t (suc k)
    next = sym (state-more t.image t.steps k x is ∙ ap (λ (d : Did). after_did d x.at.clock x.reply (state t k)) makes)

    pub turn-does : Does (state t k) (state t (suc k)) job c task made x.reply (after x.reply)
    turn-does = subst (λ (s : State). Does (state t k) s job c task made x.reply (after x.reply)) next replied

-- a step of a job of ours
module _ (t : Story) (story : IsStory t) (k job : ℕ) (x : Step) (is : step_at t k ≡ Some x) (who : x.who ≡ ours job) where
  abbrev turned : IsTurn t k x job
  turned = story.turns k job x is who

  module _ (sound : IsSound (state t k)) (one : HasOnePath (state t k)) (fits : TaskFits (state t k) turned.call turned.task)
      (known : (u : List ℕ) (size : ℕ) → Found turned.task u size → HasSize (mailbox_of (state t k)) u size) where
    pub own-does : Does (state t k) (state t (suc k)) job turned.call turned.task (turn_of job turned.task x.at).asked x.reply
        ((turn_of job turned.task x.at).follows x.reply (rows_for (turn_of job turned.task x.at).asked (state t k)))
    own-does = turn-does t story k job x is turned.call turned.task turned.made sound one fits known

    -- at an effect the call does what it does alone, and at no other step does the mailbox change
    pub as_alone : AsAlone turned.call x.effect (box t k) (box t (suc k))
    as_alone = subst (λ e. AsAlone turned.call e (box t k) (box t (suc k))) turned.affects own-does.as_alone
