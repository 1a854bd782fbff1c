-- The machine of an errand: it looks for a message in one place after the other, decides what to do with it, and does that. Where the name
-- is gone by then it looks again, as often as it has tries. The table of `Purposes` says where it looks, what it decides and what it does.
use Rattle.std.specs.Prelude.{ℕ, ◌-◌, ◌*◌, List, Option, Some, None, Bool, max, nat_le, if◌then◌else◌}
use Rattle.md_dirs.specs.Rows.{row_named}
use Rattle.md_dirs.specs.declared.paths.Place.{Place}
use Rattle.md_dirs.specs.declared.paths.Place.TheVariants.{New}
use Rattle.md_dirs.specs.declared.rows.Row.{Row}
use Rattle.md_jobs.specs.Turn.{Turn, After, goes_on, ends_by}
use Rattle.md_jobs.specs.Asked.{Asked, list, link, rename, unlink}
use Rattle.md_jobs.specs.Machines.Purposes.{first, searches, place_after, info_in, decide, answer_by, deed_by}
use Rattle.md_jobs.specs.Machines.Refusals.{refuses}
use Rattle.md_jobs.specs.declared.answer.Answer.{Answer}
use Rattle.md_jobs.specs.declared.effect.Change.{Change}
use Rattle.md_jobs.specs.declared.effect.Change.TheVariants.{Add, Rename, Remove, Same}
use Rattle.md_jobs.specs.declared.effect.Effect.{Effect}
use Rattle.md_jobs.specs.Tasks.Errand.{Errand, Stage, Look, Act}
use Rattle.md_jobs.specs.declared.purpose.Decision.{Decision}
use Rattle.md_jobs.specs.declared.purpose.Decision.TheVariants as decision
use Rattle.md_jobs.specs.Tasks.Deed.{Deed}
use Rattle.md_jobs.specs.Tasks.Deed as deed
use Rattle.md_jobs.specs.declared.purpose.Purpose.{Purpose}
use Rattle.md_jobs.specs.declared.refusal.Refusal.{Refusal}
use Rattle.md_jobs.specs.declared.refusal.Refusal.TheVariants.{NotThere, NameTaken, Lost, Fault}
use Rattle.md_jobs.specs.declared.step.DirReply.{DirReply}
use Rattle.md_jobs.specs.declared.step.DirReply.TheVariants as reply

-- an errand on a unique name, not begun
abbrev pub new_errand : ℕ → List ℕ → Purpose → ℕ → Errand
new_errand folder unique purpose tries = record { folder = folder; unique = unique; purpose = purpose; stage = Look (first purpose) tries }

-- the errand, at another stage
abbrev pub at_stage : Errand → Stage → Errand
at_stage e stage = record e { stage = stage }

-- ---- deeds

-- the directory call of a deed
abbrev pub asked_of : Deed → Asked
asked_of (deed.Rename old new) = rename old new
asked_of (deed.Link old new) = link old new
asked_of (deed.Unlink old) = unlink old

-- what it changes, with a message of this size
abbrev pub change_of : Deed → ℕ → Change
change_of (deed.Rename old new) size = Rename old.folder old.place old.name new.folder new.place new.name
change_of (deed.Link old new) size = Add new.folder new.place new.name size
change_of (deed.Unlink old) size = Remove old.folder old.place old.name

-- what it says where a name is there: a link makes a name, and nothing else does
abbrev pub taken_by : Deed → Refusal
taken_by (deed.Rename old new) = Fault
taken_by (deed.Link old new) = NameTaken
taken_by (deed.Unlink old) = Fault

-- ---- the look

-- the message was not found: it is looked for in the next place, if there is one
abbrev pub after_none : Errand → ℕ → Option Place → After Errand
after_none e tries None = refuses e NotThere
after_none e tries (Some next) = goes_on (at_stage e (Look next tries))

-- the effect of a message that is as it should be
abbrev pub kept : ℕ → Answer → Effect
kept job a = record { job = job; answer = a; change = Same }

-- what was decided of the message that was found: a refusal, its name as it is, or a deed
abbrev pub after_decision : ℕ → Errand → Place → ℕ → Row → Decision → After Errand
after_decision job e place tries row (decision.Refuse refusal) = refuses e refusal
after_decision job e place tries row decision.Keep = ends_by e (kept job (answer_by e.purpose (info_in row.name)))
after_decision job e place tries row decision.Act = goes_on (at_stage e (Act place row tries))

-- the row that was looked for
abbrev pub after_row : ℕ → Errand → Place → ℕ → Option Row → After Errand
after_row job e place tries None = after_none e tries (place_after (searches e.purpose) place)
after_row job e place tries (Some row) = after_decision job e place tries row (decide e.purpose (info_in row.name))

-- how it goes on after a look; directories that can't be listed end it with Fault
abbrev pub after_look : ℕ → Errand → Place → ℕ → DirReply → Option Row → After Errand
after_look job e place tries reply.Ok row = after_row job e place tries row
after_look job e place tries reply.Exists row = refuses e Fault
after_look job e place tries reply.NotFound row = refuses e Fault
after_look job e place tries reply.Fault row = refuses e Fault

-- the listing of a place, in which the unique name is looked for
abbrev pub look_turn : ℕ → Errand → Place → ℕ → Turn Errand
look_turn job e place tries = record {
  asked = list e.folder place;
  follows = λ r rows. after_look job e place tries r (row_named e.unique rows);
}

-- ---- the act

-- the name was gone: with the last try the message is lost
abbrev pub lost_or_again : Errand → ℕ → After Errand
lost_or_again e tries = if nat_le tries 1 then refuses e Lost else goes_on (at_stage e (Look (first e.purpose) (tries - 1)))

-- the effect of a deed
abbrev pub done_by : ℕ → Deed → Answer → ℕ → Effect
done_by job d a size = record { job = job; answer = a; change = change_of d size }

-- how it goes on after a deed, which is its effect where it is done
abbrev pub after_act : ℕ → Errand → Deed → Answer → ℕ → ℕ → DirReply → After Errand
after_act job e d a size tries reply.Ok = ends_by e (done_by job d a size)
after_act job e d a size tries reply.Exists = refuses e (taken_by d)
after_act job e d a size tries reply.NotFound = lost_or_again e tries
after_act job e d a size tries reply.Fault = refuses e Fault

-- a deed with a message of this size, and the answer of the call where it is done
abbrev pub act_turn : ℕ → Errand → Deed → Answer → ℕ → ℕ → Turn Errand
act_turn job e d a size tries = record { asked = asked_of d; follows = λ r rows. after_act job e d a size tries r }

-- ---- turns

-- the turn at a stage
abbrev pub stage_turn : ℕ → Errand → Stage → Turn Errand
stage_turn job e (Look place tries) = look_turn job e place tries
stage_turn job e (Act place row tries) =
    act_turn job e (deed_by e.purpose e.folder e.unique place row.name (info_in row.name)) (answer_by e.purpose (info_in row.name))
    row.size tries

-- the turn of an errand that has no answer
abbrev pub errand_turn : ℕ → Errand → Turn Errand
errand_turn job e = stage_turn job e e.stage

-- How many steps an errand takes at most from a stage to its answer: for each try one look in each place, and the act.
abbrev pub steps_left : Bool → Stage → ℕ
steps_left both (Look New tries) = (if both then 3 else 2) * max tries 1
steps_left both (Look place tries) = (if both then 3 else 2) * max tries 1 - (if both then 1 else 0)
steps_left both (Act place row tries) = (if both then 3 else 2) * max tries 1 - (if both then 2 else 1)
