-- Turns case by case: what holds of each way that a turn may go holds of the turn.
use Rattle.std.proofs.Common.{ℕ, ◌≡◌, ◌<◌, ◌≤◌, ◌-◌, List, Option, Some, None, Bool, true, false, cond, nat_le, nat_lt, length, refl, arith}
use Rattle.std.proofs.lemmas.Bool.Decides.{nat_tests}
use Rattle.md_name.specs.declared.info.Info.{Info}
use Rattle.md_dirs.specs.Rows.{row_named}
use Rattle.md_dirs.specs.declared.paths.Place.{Place}
use Rattle.md_dirs.specs.declared.rows.Row.{Row}
use Rattle.md_jobs.specs.declared.answer.Answer.TheVariants as answer
use Rattle.md_jobs.specs.declared.effect.Effect.{Effect}
use Rattle.md_jobs.specs.declared.step.DirReply.{DirReply}
use Rattle.md_jobs.specs.declared.step.DirReply.TheVariants as reply
use Rattle.md_jobs.specs.declared.step.Moment.{Moment}
use Rattle.md_jobs.specs.Machines.Deliver.{is_in_time, create_turn, append_turn, link_turn, unlink_turn}
use Rattle.md_jobs.specs.Machines.Deliver as delivered_by
use Rattle.md_jobs.specs.Machines.Errand.{at_stage, after_none, after_decision, after_row, taken_by, stage_turn}
use Rattle.md_jobs.specs.Machines.Purposes.{first, searches, place_after, info_in, decide, answer_by, deed_by}
use Rattle.md_jobs.specs.Machines.Refusals.{refused_by, refuses}
use Rattle.md_jobs.specs.declared.purpose.Decision.{Decision}
use Rattle.md_jobs.specs.declared.purpose.Decision.TheVariants as decision
use Rattle.md_jobs.specs.Tasks.Delivery.{Delivery, Start, Writing, Linked, Undo}
use Rattle.md_jobs.specs.Tasks.Delivery as delivery
use Rattle.md_jobs.specs.Tasks.Errand.{Errand, Stage, Look, Act}
use Rattle.md_jobs.specs.declared.refusal.Refusal.{Refusal}
use Rattle.md_jobs.specs.declared.refusal.Refusal.TheVariants.{NotThere, Lost, TimedOut, Fault}
use Rattle.md_jobs.specs.Turn.{After, Turn, goes_on, ends_by}

-- An errand is refused, goes on to the next place, has its effect, goes on to act, or goes on to look again.
module _ (job : ℕ) (e : Errand) (rows : List Row) (P : Stage → DirReply → After Errand → Type 0)
    (refused : (stage : Stage) (r : DirReply) (x : Refusal) → P stage r (refuses e x))
    (next : (place to : Place) (tries : ℕ) → place_after (searches e.purpose) place ≡ Some to →
    P (Look place tries) reply.Ok (goes_on (at_stage e (Look to tries))))
    (effect : (stage : Stage) (x : Effect) (info : Info) → x.answer ≡ answer_by e.purpose info → P stage reply.Ok (ends_by e x))
    (found : (place : Place) (tries : ℕ) (row : Row) → row_named e.unique rows ≡ Some row →
    decide e.purpose (info_in row.name) ≡ decision.Act → P (Look place tries) reply.Ok (goes_on (at_stage e (Act place row tries))))
    (again : (place : Place) (row : Row) (tries : ℕ) → nat_le tries 1 ≡ false →
    P (Act place row tries) reply.NotFound (goes_on (at_stage e (Look (first e.purpose) (tries - 1))))) where
  none-so : (place : Place) (tries : ℕ) (o : Option Place) → place_after (searches e.purpose) place ≡ o →
      P (Look place tries) reply.Ok (after_none e tries o)
  none-so place tries None is = refused (Look place tries) reply.Ok NotThere
  none-so place tries (Some to) is = next place to tries is

  decision-so : (place : Place) (tries : ℕ) (row : Row) (d : Decision) → row_named e.unique rows ≡ Some row →
      decide e.purpose (info_in row.name) ≡ d → P (Look place tries) reply.Ok (after_decision job e place tries row d)
  decision-so place tries row (decision.Refuse x) is decided = refused (Look place tries) reply.Ok x
  decision-so place tries row decision.Keep is decided = effect (Look place tries) _ (info_in row.name) refl
  decision-so place tries row decision.Act is decided = found place tries row is decided

  row-so : (place : Place) (tries : ℕ) (o : Option Row) → row_named e.unique rows ≡ o →
      P (Look place tries) reply.Ok (after_row job e place tries o)
  row-so place tries None is = none-so place tries (place_after (searches e.purpose) place) refl
  row-so place tries (Some row) is = decision-so place tries row (decide e.purpose (info_in row.name)) is refl

  again-so : (place : Place) (row : Row) (tries : ℕ) (last : Bool) → nat_le tries 1 ≡ last →
      P (Act place row tries) reply.NotFound (cond last (refuses e Lost) (goes_on (at_stage e (Look (first e.purpose) (tries - 1)))))
  again-so place row tries true is = refused (Act place row tries) reply.NotFound Lost
  again-so place row tries false is = again place row tries is

  pub by-errand : (stage : Stage) (r : DirReply) → P stage r ((stage_turn job e stage).follows r rows)
  by-errand (Look place tries) reply.Ok = row-so place tries (row_named e.unique rows) refl
  by-errand (Act place row tries) reply.Ok = effect (Act place row tries) _ (info_in row.name) refl
  by-errand (Act place row tries) reply.Exists =
      refused (Act place row tries) reply.Exists (taken_by (deed_by e.purpose e.folder e.unique place row.name (info_in row.name)))
  by-errand (Act place row tries) reply.NotFound = again-so place row tries (nat_le tries 1) refl
  by-errand stage other = refused stage other Fault

-- A delivery makes its file, appends a piece, links the file, or takes it away.
module _ (job : ℕ) (d : Delivery) (at : Moment) (P : delivery.Stage → Turn Delivery → Type 0)
    (creates : P Start (create_turn d at.own))
    (appends : (start k : ℕ) → k < length d.body → P (Writing start k) (append_turn d start k))
    (links : (start k : ℕ) → length d.body ≤ k → P (Writing start k) (link_turn job d))
    (late : (start k : ℕ) → P (Writing start k) (unlink_turn d (refused_by TimedOut)))
    (linked : P Linked (unlink_turn d answer.Delivered))
    (undoes : (x : Refusal) → P (Undo x) (unlink_turn d (refused_by x))) where
  writes : (start k : ℕ) (in_time more : Bool) → nat_lt k (length d.body) ≡ more →
      P (Writing start k) (cond in_time (cond more (append_turn d start k) (link_turn job d)) (unlink_turn d (refused_by TimedOut)))
  writes start k true true is = appends start k (grind (arith, nat_tests))
  writes start k true false is = links start k (grind (arith, nat_tests))
  writes start k false more is = late start k

  pub by-delivery : (stage : delivery.Stage) → P stage (delivered_by.stage_turn job d at stage)
  by-delivery Start = creates
  by-delivery (Writing start k) = writes start k (is_in_time start at.own) (nat_lt k (length d.body)) refl
  by-delivery Linked = linked
  by-delivery (Undo x) = undoes x
