-- What each turn of a delivery says, by its stage and the reply: its names are not used before, so that it fails only where a call faults,
-- or its file in tmp is gone, or its time is over.
use Rattle.std.proofs.Common.{ℕ, ◌≡◌, [], None, Bool, true, false, cond, length, nat_lt, refl, MatchOption}
use Rattle.md_dirs.specs.Calls as dirs
use Rattle.md_core.proofs.Values.{State, file_at, Call, DirReply, Moment, Answer, Delivery, Stage, Start, Writing, Linked, Undo, After, Turn, rows_for, reply_of, ask_of, refused_by}
use Rattle.md_jobs.specs.declared.answer.Answer.TheVariants as answer
use Rattle.md_jobs.specs.declared.step.DirReply.TheVariants as reply
use Rattle.md_jobs.specs.Machines.Deliver.{at_stage, target, piece, create_turn, append_turn, link_turn, unlink_turn, stage_turn, delivery_turn, is_in_time}
use Rattle.md_core.proofs.Induction.Good.{DeliveryFits}
use Rattle.md_core.proofs.Directories.Frames.{tmp-key}
use Rattle.md_core.proofs.Answers.Turns.Refusals.{create-exists, create-not_found, append-exists, link-exists}

-- what an answer says of the stage at which it was given, and of the reply
abbrev pub DeliveryTells : Stage → DirReply → Answer → Type 0
DeliveryTells (Undo b) r a = a ≡ refused_by b
DeliveryTells stage r answer.Delivered = Unit {0}
DeliveryTells stage r answer.TimedOut = Unit {0}
DeliveryTells stage r answer.TmpGone = Unit {0}
DeliveryTells stage r answer.Fault = r ≡ reply.Fault
DeliveryTells stage r a = ⊥

-- a delivery that takes its file away again did so for a fault
abbrev pub Undoes : DirReply → Stage → Type 0
Undoes r (Undo a) = (refused_by a ≡ answer.Fault) × (r ≡ reply.Fault)
Undoes r other = Unit {0}

abbrev pub DeliverySays : Stage → DirReply → After Delivery → Type 0
DeliverySays stage r after = MatchOption after.answer (Undoes r after.task.stage) (DeliveryTells stage r)

module _ (s : State) (number : ℕ) (asked : Call) (at : Moment) (faulted : Bool) (d : Delivery) where
  -- what a turn says, with the reply that the directories give
  abbrev SaysOne : Stage → Turn Delivery → Type 0
  SaysOne stage turn =
      let r = reply_of (ask_of turn.asked at.clock) s faulted in DeliverySays stage r (turn.follows r (rows_for turn.asked s))

  create-says : DeliveryFits s asked (at_stage d Start) → (r : DirReply) → r ≡ reply_of (dirs.create d.tmp at.clock) s faulted →
      DeliverySays Start r ((create_turn (at_stage d Start) at.own).follows r [])
  create-says fits reply.Ok replied = tt
  create-says fits reply.Exists replied =
      absurd (create-exists s faulted d.tmp at.clock (fits.stage d.tmp (tmp-key d.tmp fits.in_tmp)) replied)
  create-says fits reply.NotFound replied = absurd (create-not_found s faulted d.tmp at.clock fits.in_folder replied)
  create-says fits reply.Fault replied = refl

  module _ (start k : ℕ) (fits : DeliveryFits s asked (at_stage d (Writing start k))) where
    abbrev x : Delivery
    x = at_stage d (Writing start k)

    append-says : (r : DirReply) → r ≡ reply_of (dirs.append d.tmp (piece d k) at.clock) s faulted →
        DeliverySays (Writing start k) r ((append_turn x start k).follows r [])
    append-says reply.Exists replied = absurd (append-exists s faulted d.tmp (piece d k) at.clock replied)
    append-says reply.Fault replied = (refl, refl)
    append-says other replied = tt

    unused : file_at s (target d) ≡ None
    unused = fits.stage.1 (target d) fits.name.message fits.name.plain

    link-says : (r : DirReply) → r ≡ reply_of (dirs.link d.tmp (target d)) s faulted →
        DeliverySays (Writing start k) r ((link_turn number x).follows r [])
    link-says reply.Exists replied = absurd (link-exists s faulted d.tmp (target d) unused replied)
    link-says reply.Fault replied = (refl, refl)
    link-says other replied = tt

    writing-says : (in_time more : Bool) →
        SaysOne (Writing start k) (cond in_time (cond more (append_turn x start k) (link_turn number x)) (unlink_turn x answer.TimedOut))
    writing-says true true = append-says (reply_of (dirs.append d.tmp (piece d k) at.clock) s faulted) refl
    writing-says true false = link-says (reply_of (dirs.link d.tmp (target d)) s faulted) refl
    writing-says false more = tt

  stage-says : (stage : Stage) → DeliveryFits s asked (at_stage d stage) → SaysOne stage (stage_turn number (at_stage d stage) at stage)
  stage-says Start fits = create-says fits (reply_of (dirs.create d.tmp at.clock) s faulted) refl
  stage-says (Writing start k) fits = writing-says start k fits (is_in_time start at.own) (nat_lt k (length d.body))
  stage-says Linked fits = tt
  stage-says (Undo a) fits = refl

  -- What a turn of a delivery says, whatever its stage.
  pub delivery-says : DeliveryFits s asked d → SaysOne d.stage (delivery_turn number d at)
  delivery-says fits = stage-says d.stage fits
