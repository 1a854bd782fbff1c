-- What a turn of a job that acts on one message says: of the answer that it gives, or of how the job goes on.
use Rattle.md_jobs.specs.Tasks.Errand.{Stage, Look, Act}
use Rattle.std.proofs.Common.{ℕ, ◌≡◌, ◌+◌, ◌≤◌, List, Some, None, Bool, true, MatchOption}
use Rattle.md_core.proofs.Values.{State, file_at, Path, New, Cur, Call, Answer, DirReply, Task, Errand, path_of, unique_of, mailbox_of, is_message, alone, entry_if, is_in_place, After, searches, place_after, get}
use Rattle.md_jobs.specs.declared.answer.Answer.TheVariants as answer
use Rattle.md_jobs.specs.declared.step.DirReply.TheVariants as reply
use Rattle.md_core.proofs.Machines.Errand.Table.Calls.{sought}

-- How far a job is with its tries: it looks for its message, or it acts on a path of it. Deliveries and cleans have none.
pub data Trying : Type 0 where
  idle : Trying
  looking : (tries : ℕ) → Trying
  acting : (p : Path) (tries : ℕ) → Trying

abbrev pub errand_trying : ℕ → Stage → Trying
errand_trying folder (Look place tries) = looking tries
errand_trying folder (Act place row tries) = acting (path_of folder place row.name) tries

abbrev pub trying_of : Task → Trying
trying_of (Errand e) = errand_trying e.folder e.stage
trying_of other = idle

-- a message of the unique name is at the path
pub record IsPathOf (s : State) (u : List ℕ) (p : Path) : Type 0 where
  pub file : ℕ
  pub there : file_at s p ≡ Some file
  pub message : is_message p ≡ true
  pub unique : unique_of p.name ≡ u

-- How the tries go on by a turn from one state of directories to another: what was found is there then, and a try is over only where
-- the path was gone.
abbrev pub TriesOn : State → State → List ℕ → Trying → Trying → Type 0
TriesOn s s' u idle next = ⊥
TriesOn s s' u (looking tries) idle = ⊥
TriesOn s s' u (looking tries) (looking left) = left ≡ tries
TriesOn s s' u (looking tries) (acting p left) = (left ≡ tries) × IsPathOf s' u p
TriesOn s s' u (acting p tries) idle = ⊥
TriesOn s s' u (acting p tries) (looking left) = (left + 1 ≡ tries) × (file_at s p ≡ None)
TriesOn s s' u (acting p tries) (acting q left) = ⊥

-- the last try is over, and the path was gone
abbrev pub IsOver : State → Trying → Type 0
IsOver s (acting p tries) = (tries ≤ 1) × (file_at s p ≡ None)
IsOver s other = ⊥

-- what an errand has seen that goes on to cur, and what it sees where it ends after its last place
abbrev pub IsPastNew : State → ℕ → List ℕ → Bool → Stage → Type 0
IsPastNew s folder u both (Look place tries) = both ≡ true → place ≡ Cur → entry_if (is_in_place New folder) (get (mailbox_of s) u) ≡ None
IsPastNew s folder u both (Act place row tries) = Unit {0}

abbrev pub IsPastLast : State → ℕ → List ℕ → Bool → Stage → Type 0
IsPastLast s folder u both (Look place tries) = (entry_if (is_in_place place folder) (get (mailbox_of s) u) ≡ None) × (place_after both place ≡ None)
IsPastLast s folder u both (Act place row tries) = ⊥

abbrev pub HasLooked : State → Task → Type 0
HasLooked s (Errand e) = IsPastNew s e.folder e.unique (searches e.purpose) e.stage
HasLooked s other = Unit {0}

-- a job that goes on
pub record GoesOn (s s' : State) (asked : Call) (task task' : Task) : Type 0 where
  pub tries : TriesOn s s' (sought asked) (trying_of task) (trying_of task')
  pub looked : HasLooked s task'

-- the call alone on the mailbox would be answered so
abbrev pub IsAlone : State → Call → Answer → Type 0
IsAlone s asked a = (alone asked (mailbox_of s)).answer ≡ a

-- nothing was found in the last place
abbrev pub FindsNone : State → Call → Task → Type 0
FindsNone s asked (Errand e) = IsPastLast s e.folder e.unique (searches e.purpose) e.stage
FindsNone s asked other = ⊥

-- what an answer says of the turn that gave it
abbrev pub Tells : State → Call → Task → DirReply → Answer → Type 0
Tells s asked task r answer.NotThere = FindsNone s asked task
Tells s asked task r answer.NotTrashed = IsAlone s asked answer.NotTrashed
Tells s asked task r answer.OtherInfo = IsAlone s asked answer.OtherInfo
Tells s asked task r answer.Lost = IsOver s (trying_of task)
Tells s asked task r answer.Fault = r ≡ reply.Fault
Tells s asked task r answer.NameTaken = ⊥
Tells s asked task r answer.TimedOut = ⊥
Tells s asked task r answer.TmpGone = ⊥
Tells s asked task r (answer.Cleaned n) = ⊥
Tells s asked task r other = Unit {0}

abbrev pub TurnSays : State → State → Call → Task → DirReply → After Task → Type 0
TurnSays s s' asked task r after = MatchOption after.answer (GoesOn s s' asked task after.task) (Tells s asked task r)
