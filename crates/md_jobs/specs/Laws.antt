-- What the laws of the machines say of one turn.
use Rattle.std.specs.Prelude.{ℕ, ◌≡◌, ◌++◌, ◌-◌, ◌⊎◌, List, [], length, take, drop, map, filter, count_by, nat_le, None, Some, IfSome}
use Rattle.md_dirs.specs.Path.{path_of as path}
use Rattle.md_dirs.specs.Rows.{row_named}
use Rattle.md_dirs.specs.declared.paths.Path.{Path}
use Rattle.md_dirs.specs.declared.paths.Place.TheVariants.{Tmp, New}
use Rattle.md_dirs.specs.declared.rows.Row.{Row}
use Rattle.md_name.specs.declared.info.Info.{Info}
use Rattle.md_jobs.specs.Asked.{Asked, create, append, link, rename, unlink, list}
use Rattle.md_jobs.specs.Made.{Heard, Made, answer_in, unlinks, takes_away}
use Rattle.md_jobs.specs.Machines.Purposes.{answer_by, decide, info_in}
use Rattle.md_jobs.specs.Machines.Refusals.{refused_by}
use Rattle.md_jobs.specs.Tasks.Cleaning.{Cleaning}
use Rattle.md_jobs.specs.declared.purpose.Decision.TheVariants as decision
use Rattle.md_jobs.specs.Tasks.Delivery.{Delivery}
use Rattle.md_jobs.specs.Tasks.Delivery as delivery
use Rattle.md_jobs.specs.Tasks.Errand.{Errand}
use Rattle.md_jobs.specs.Tasks.Errand as errand
use Rattle.md_jobs.specs.declared.purpose.Purpose.{Purpose}
use Rattle.md_jobs.specs.declared.refusal.Refusal.{Refusal}
use Rattle.md_jobs.specs.Turn.{After}
use Rattle.md_jobs.specs.declared.answer.Answer.TheVariants as answer
use Rattle.md_jobs.specs.declared.step.DirReply.{DirReply}
use Rattle.md_jobs.specs.declared.step.DirReply.TheVariants as reply

-- where the turn is an effect the errand ends, with the effect's answer, which is that of its purpose where the message has some info
abbrev pub IsLast : Purpose → After Errand → Type 0
IsLast purpose after = IfSome after.effect (λ x. (after.answer ≡ Some x.answer) × ((info : Info) × (x.answer ≡ answer_by purpose info)))

-- the directory call makes, writes or takes away this path, or links it to its name in new
abbrev pub IsOn : Path → Asked → Type 0
IsOn p (create q) = q ≡ p
IsOn p (append q bytes) = q ≡ p
IsOn p (link old new) = (old ≡ p) × (new ≡ path p.folder New p.name)
IsOn p (unlink q) = q ≡ p
IsOn p asked = ⊥

-- an effect only where the call was done; and an answer that is no effect is a refusal
pub record IsDoneOrRefused {T : Type 0} (r : DirReply) (after : After T) : Type 0 where
  pub done : IfSome after.effect (λ x. r ≡ reply.Ok)
  pub refused : after.effect ≡ None → IfSome after.answer (λ a. (refusal : Refusal) × (a ≡ refused_by refusal))

-- an errand that is to act, acts on the row of this reading that has its unique name, in the place that was read, since its purpose decided
-- so of that name
abbrev pub IsRead : errand.Errand → DirReply → List Row → errand.Stage → Type 0
IsRead e r rows (errand.Look place tries) = Unit {0}
IsRead e r rows (errand.Act place row tries) =
    (r ≡ reply.Ok) × (row_named e.unique rows ≡ Some row) × (decide e.purpose (info_in row.name) ≡ decision.Act)
    × ((t : ℕ) × (e.stage ≡ errand.Look place t))

-- the directory call renames this path, links it or takes it away
abbrev pub IsAt : Path → Asked → Type 0
IsAt p (rename old new) = old ≡ p
IsAt p (link old new) = old ≡ p
IsAt p (unlink q) = q ≡ p
IsAt p asked = ⊥

-- an errand that looks lists the place where it looks, and one that acts calls on the path of its row
abbrev pub IsOnRow : errand.Errand → Asked → errand.Stage → Type 0
IsOnRow e asked (errand.Look place tries) = asked ≡ list e.folder place
IsOnRow e asked (errand.Act place row tries) = IsAt (path e.folder place row.name) asked

-- what the appends that were done wrote to the file of a delivery, after one more call
abbrev pub file_after : List ℕ → DirReply → Asked → List ℕ
file_after file reply.Ok (create p) = []
file_after file reply.Ok (append p bytes) = file ++ bytes
file_after file r asked = file

-- what a delivery still has to write is what its file lacks of the body, and a file that was linked has all of it
abbrev pub IsHeld : List ℕ → List ℕ → delivery.Stage → Type 0
IsHeld body file delivery.Start = Unit {0}
IsHeld body file (delivery.Writing start k) = file ++ drop k body ≡ body
IsHeld body file delivery.Linked = file ≡ body
IsHeld body file (delivery.Undo refusal) = Unit {0}

-- a link is asked for only of a file that has all bytes of the body
abbrev pub LinksWhole : List ℕ → List ℕ → Asked → Type 0
LinksWhole body file (link old new) = file ≡ body
LinksWhole body file asked = Unit {0}

-- one step of a delivery whose file has these bytes: its link is of the whole body, and so it stays
pub record KeepsWhole (d : Delivery) (file : List ℕ) (asked : Asked) (r : DirReply) (after : After Delivery) : Type 0 where
  pub whole : LinksWhole d.body file asked
  pub body : after.task.body ≡ d.body
  pub held : IsHeld d.body (file_after file r asked) after.task.stage

-- a delivery has linked its file, if it is at this stage
abbrev pub IsLinked : delivery.Stage → Type 0
IsLinked delivery.Linked = Unit {0}
IsLinked stage = ⊥

-- a step of a delivery answers that it is delivered only once it is linked, and as it takes its path in tmp away; and it is linked only by
-- a link that was done
pub record IsDeliveredByLink (d : Delivery) (asked : Asked) (r : DirReply) (after : After Delivery) : Type 0 where
  pub answered : after.answer ≡ Some answer.Delivered → IsLinked d.stage × (asked ≡ unlink d.tmp)
  pub linked : after.answer ≡ None → IsLinked after.task.stage → (r ≡ reply.Ok) × (asked ≡ link d.tmp (path d.tmp.folder New d.tmp.name))
  pub effect : IfSome after.effect (λ x. (r ≡ reply.Ok) × (asked ≡ link d.tmp (path d.tmp.folder New d.tmp.name)))
  pub refused : IfSome after.answer (λ a. (a ≡ answer.Delivered) ⊎ ((refusal : Refusal) × (a ≡ refused_by refusal)))

-- the call lists tmp of this folder, or takes a name of it away
abbrev pub IsInTmp : ℕ → Asked → Type 0
IsInTmp folder (list f place) = (f ≡ folder) × (place ≡ Tmp)
IsInTmp folder (unlink p) = (p.folder ≡ folder) × (p.place ≡ Tmp)
IsInTmp folder asked = ⊥

-- a clean lists tmp of its folder, or takes a name of it away; it has no effect on messages, and its answer is a number or Fault
pub record KeepsToTmp (c : Cleaning) (asked : Asked) (after : After Cleaning) : Type 0 where
  pub asks : IsInTmp c.folder asked
  pub effect : after.effect ≡ None
  pub answer : IfSome after.answer (λ a. ((n : ℕ) × (a ≡ answer.Cleaned n)) ⊎ (a ≡ answer.Fault))

-- the names of rows whose files were not used for 36 hours, in seconds, at a moment
abbrev pub unused_names : ℕ → List Row → List (List ℕ)
unused_names own rows = map (λ row. row.name) (filter (λ row. nat_le 129600 (own - row.stamp)) rows)

-- The calls of a clean: after its one listing it takes away, or tries to, the names that this showed to be old, one after another, each
-- once. Its answer says how many it took away, once it has tried them all.
pub record CleansOld (folder : ℕ) (listing : Heard) (calls : List Made) : Type 0 where
  pub n : ℕ
  pub names : unlinks calls ≡ map (path folder Tmp) (take n (unused_names listing.at.own listing.rows))
  pub all : (k : ℕ) → answer_in calls ≡ Some (answer.Cleaned k) → n ≡ length (unused_names listing.at.own listing.rows)
  pub counted : (k : ℕ) → answer_in calls ≡ Some (answer.Cleaned k) → k ≡ count_by takes_away calls
