-- What holds of a machine at each moment, and what one turn does. No contract speaks of these: they are the induction.
use Rattle.std.proofs.Common.{ℕ, suc, ◌⊎◌, ◌≡◌, ◌<◌, ◌≤◌, List, Option, Some, None, Bool, true, false, if◌then◌else◌, take, length, slice_get, is_some, MatchBool, IfSome, MatchOption}
use Rattle.md_core.proofs.Values.{State, file_at, file_by, IsSound, Place, Tmp, Cur, Row, Call, Answer, Effect, DirReply, Moment, Task, Deliver, Errand, Clean, Path, unique_of, info_text, is_message_name, is_unique_name, Delivery, Stage, Start, Writing, Linked, Undo, Entry, Mailbox, mailbox_of, bytes_of, is_tmp, is_message, HasOnePath, names_of, names_after_change, IsAllowed, Asked, ask_of, state_by, After, rows_for, reply_of, AsAlone, NoneOverwritten, is_success, is_effect_at, name_used, MakesMessage, option_or, Cleaning, refused_by, Purpose, delivery_effect, first, searches, info_in, decide}
use Rattle.md_jobs.specs.declared.call.Call.TheVariants as call
use Rattle.md_jobs.specs.Tasks.Errand.{Errand as ErrandOf, Look, Act}
use Rattle.md_jobs.specs.Tasks.Errand as errand
use Rattle.md_jobs.specs.declared.purpose.Decision.TheVariants as decision
use Rattle.std.specs.FinMap as finmap
use Rattle.md_core.specs.Machine.{Machine, working, turn_of, steps_left}
use Rattle.md_core.proofs.Theorem.RunLaw.{is_linked}
use Rattle.md_core.proofs.Machines.Errand.Table.Calls.{call_by, folder_to, IsFor}

abbrev pub bytes_at : State → ℕ → List ℕ
bytes_at s n = bytes_of (file_by s.files n)

-- no path uses the name
abbrev pub IsUnused : State → List ℕ → Type 0
IsUnused s u = (p : Path) → name_used p ≡ u → file_at s p ≡ None

-- no message has the name
abbrev pub HasNoMessage : State → List ℕ → Type 0
HasNoMessage s u = (p : Path) → is_message p ≡ true → unique_of p.name ≡ u → file_at s p ≡ None

-- the file of a path, where it is still there, holds these bytes and has no other path
pub record IsAlone (s : State) (p : Path) (bytes : List ℕ) : Type 0 where
  pub holds : (n : ℕ) → file_at s p ≡ Some n → bytes_at s n ≡ bytes
  pub only : (n : ℕ) (q : Path) → file_at s p ≡ Some n → file_at s q ≡ Some n → q ≡ p

-- a name that may be delivered under
pub record IsUniqueName (u : List ℕ) : Type 0 where
  pub message : is_message_name u ≡ true
  pub plain : unique_of u ≡ u
  pub bare : info_text u ≡ None

-- what directories have of a delivery, by its stage. Past its link nothing is asked of them
abbrev pub StageFits : State → Delivery → Stage → Type 0
StageFits s d Start = IsUnused s d.tmp.name
StageFits s d (Writing start k) = (k ≤ length d.body) × HasNoMessage s d.tmp.name × IsAlone s d.tmp (take k d.body)
StageFits s d Linked = Unit {0}
StageFits s d (Undo a) = HasNoMessage s d.tmp.name × (is_success (refused_by a) ≡ false)

pub record DeliveryFits (s : State) (asked : Call) (d : Delivery) : Type 0 where
  pub of : asked ≡ call.Deliver d.tmp.folder d.tmp.name d.body d.chunk
  pub in_tmp : d.tmp.place ≡ Tmp
  pub in_folder : d.tmp.folder < s.folders
  pub name : IsUniqueName d.tmp.name
  pub chunked : 0 < d.chunk
  pub stage : StageFits s d d.stage

-- a place that an errand looks in
abbrev pub IsPlaceOf : Purpose → Place → Type 0
IsPlaceOf p place = (place ≡ first p) ⊎ ((searches p ≡ true) × (place ≡ Cur))

-- what an errand has found: a name of its message in a place of its own, on which it acts
pub record IsFound (u : List ℕ) (p : Purpose) (place : Place) (row : Row) : Type 0 where
  pub at : IsPlaceOf p place
  pub named : is_message_name row.name ≡ true
  pub unique : unique_of row.name ≡ u
  pub acts : decide p (info_in row.name) ≡ decision.Act

abbrev pub IsAtStage : List ℕ → Purpose → errand.Stage → Type 0
IsAtStage u p (Look place tries) = IsPlaceOf p place
IsAtStage u p (Act place row tries) = IsFound u p place row

-- what directories have of an errand: its folders, and no message of a name that it makes
pub record ErrandFits (s : State) (asked : Call) (e : ErrandOf) : Type 0 where
  pub tries : ℕ
  pub of : asked ≡ call_by e.folder e.unique e.purpose tries
  pub in_folder : e.folder < s.folders
  pub to_folder : folder_to e.folder e.purpose < s.folders
  pub valid : is_unique_name e.unique ≡ true
  pub is_for : IsFor e.folder e.purpose
  pub none : (u : List ℕ) → MakesMessage asked u → HasNoMessage s u
  pub stage : IsAtStage e.unique e.purpose e.stage

-- a clean asks nothing of the directories
abbrev pub CleaningFits : Call → Cleaning → Type 0
CleaningFits asked c = asked ≡ call.Clean c.folder

-- what directories have of a task of a call
abbrev pub TaskFits : State → Call → Task → Type 0
TaskFits s asked (Deliver d) = DeliveryFits s asked d
TaskFits s asked (Errand e) = ErrandFits s asked e
TaskFits s asked (Clean c) = CleaningFits asked c

-- the size of the message of a unique name that an errand has found
abbrev pub FoundAt : List ℕ → errand.Stage → List ℕ → ℕ → Type 0
FoundAt unique (Look place tries) u size = ⊥
FoundAt unique (Act place row tries) u size = (unique ≡ u) × (row.size ≡ size)

-- the size of a message that a task has found
abbrev pub Found : Task → List ℕ → ℕ → Type 0
Found (Errand e) u size = FoundAt e.unique e.stage u size
Found other u size = ⊥

-- the message of the unique name has this size, where it is there
abbrev pub HasSize : Mailbox → List ℕ → ℕ → Type 0
HasSize m u size = (e : Entry) → finmap.get m u ≡ Some e → length e.bytes ≡ size

-- the message of the unique name is there, and has this size
abbrev pub IsOfSize : Mailbox → List ℕ → ℕ → Type 0
IsOfSize m u size = (e : Entry) × (finmap.get m u ≡ Some e) × (length e.bytes ≡ size)

-- the two calls make no one name
abbrev pub IsApart : Call → Call → Type 0
IsApart a b = (u : List ℕ) → MakesMessage a u → MakesMessage b u → ⊥

-- the effect that a task has had
abbrev pub own_effect : ℕ → Task → Option Effect
own_effect number (Deliver d) = if is_linked d.stage then Some (delivery_effect number d) else None
own_effect number other = None

-- What is known of a message that was found: where it is there it has this size, and no job without an effect makes its name.
pub record Known (calls : List Call) (m : Machine) (u : List ℕ) (size : ℕ) : Type 0 where
  pub has_size : HasSize (mailbox_of m.dirs) u size
  pub unmade : (j : ℕ) (asked : Call) (task : Task) → slice_get calls j ≡ Some asked → slice_get m.jobs j ≡ Some (working task) →
      own_effect (suc j) task ≡ None → MakesMessage asked u → ⊥

-- What holds of a machine of these calls at each moment.
pub record IsGood (calls : List Call) (m : Machine) : Type 0 where
  pub sound : IsSound m.dirs
  pub one_path : HasOnePath m.dirs
  pub fits : (i : ℕ) (asked : Call) (task : Task) → slice_get calls i ≡ Some asked → slice_get m.jobs i ≡ Some (working task) → TaskFits m.dirs asked task
  pub found : (i : ℕ) (task : Task) (u : List ℕ) (size : ℕ) → slice_get m.jobs i ≡ Some (working task) → Found task u size → Known calls m u size
  pub as_many : length m.jobs ≡ length calls

-- an effect of a job between two mailboxes
pub record Affects (number : ℕ) (asked : Call) (folders : ℕ) (m m' : Mailbox) (e : Effect) : Type 0 where
  pub of : e.job ≡ number
  pub changes : names_of m' ≡ names_after_change (names_of m) e.change
  pub allowed : IsAllowed folders (names_of m) (MakesMessage asked) e.answer e.change

-- how many steps a task takes at most is for it alone to say, whatever others do to the directories
abbrev pub IsFixed : Task → Type 0
IsFixed task = (s s' : State) → steps_left s (Some (working task)) ≡ steps_left s' (Some (working task))

-- a job is answered as the effect says that it has had, or has had none
abbrev pub Settles : Option Effect → Answer → Type 0
Settles had a = MatchBool (is_success a) ((e : Effect) × (had ≡ Some e) × (e.answer ≡ a)) (had ≡ None)

-- What one turn does: the directories before and after it, the task before it, its directory call and the reply, and how the job stands after it.
pub record Does (s s' : State) (number : ℕ) (asked : Call) (task : Task) (made : Asked) (r : DirReply) (after : After Task) : Type 0 where
  pub sound : IsSound s'
  pub one_path : HasOnePath s'
  pub folders : s'.folders ≡ s.folders
  pub fits : after.answer ≡ None → TaskFits s' asked after.task
  -- another job, which makes no name of this one
  pub others : (asked' : Call) (task' : Task) → IsApart asked asked' → TaskFits s asked' task' → TaskFits s' asked' task'
  pub none_overwritten : NoneOverwritten s s'
  -- names in new and cur that are no messages
  pub no_messages : (p : Path) → is_tmp p.place ≡ false → is_message p ≡ false → file_at s' p ≡ file_at s p
  pub as_alone : AsAlone asked after.effect (mailbox_of s) (mailbox_of s')
  pub is_effect : is_some after.effect ≡ is_effect_at asked made r after.answer
  -- an effect is the first of its job
  pub first : IfSome after.effect (λ e. own_effect number task ≡ None)
  -- what the task has found by then, it had found before, or it is there
  pub found : (u : List ℕ) (size : ℕ) → after.answer ≡ None → Found after.task u size → Found task u size ⊎ IsOfSize (mailbox_of s) u size
  pub effect : IfSome after.effect (Affects number asked s.folders (mailbox_of s) (mailbox_of s'))
  -- the task keeps the effect that it has had, and its answer is of that
  pub settles : MatchOption after.answer (own_effect number after.task ≡ option_or after.effect (own_effect number task))
      (Settles (option_or after.effect (own_effect number task)))
  pub nearer : MatchOption after.answer (steps_left s' (Some (working after.task)) < steps_left s (Some (working task))) (λ a. 0 < steps_left s (Some (working task)))
  pub fixed : after.answer ≡ None → IsFixed after.task

-- what a turn at a moment does to directories, by whether its directory call faults
abbrev pub DoesTurn : State → ℕ → Call → Task → Moment → Bool → Type 0
DoesTurn s number asked task at faulted =
    let turn = turn_of number task at in
    let r = reply_of (ask_of turn.asked at.clock) s faulted in
    Does s (state_by (ask_of turn.asked at.clock) s r) number asked task turn.asked r (turn.follows r (rows_for turn.asked s))

-- What a turn of any task does, where all is good before it.
abbrev pub EachTurn : Type 0
EachTurn = (s : State) (number : ℕ) (asked : Call) (task : Task) (at : Moment) (faulted : Bool) → IsSound s → HasOnePath s → TaskFits s asked task →
    ((u : List ℕ) (size : ℕ) → Found task u size → HasSize (mailbox_of s) u size) → DoesTurn s number asked task at faulted
