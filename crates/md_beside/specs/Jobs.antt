-- The law of our jobs beside other programs, whatever these are: each delivery, each errand (Seen, Flag, Move, Expunge and Copy) and each
-- clean keeps its promise as long as the others do what they owe.
use Rattle.std.specs.Prelude.{ℕ, suc, ◌≡◌, ◌≤◌, List, Some}
use Rattle.md_jobs.specs.declared.answer.Answer.{Answer}
use Rattle.md_jobs.specs.declared.answer.Answer.TheVariants as answer
use Rattle.md_jobs.specs.declared.call.Call.{Call}
use Rattle.md_jobs.specs.declared.call.Call.TheVariants as call
use Rattle.md_core.specs.Interleaving.{IsDelivery}
use Rattle.md_core.specs.Mailbox.{HasOnePath}
use Rattle.md_core.specs.Stepping.{AsAlone}
use Rattle.md_core.specs.Trace.{call_at}
use Rattle.md_log.specs.declared.clause.Clause.{Clause}
use Rattle.md_log.specs.declared.clause.Clause.TheVariants as clause
use Rattle.md_law.specs.Clauses as law
use Rattle.md_law.specs.History.{History}
use Rattle.md_law.specs.Law.{Breaks}
use Rattle.md_law.specs.Law as owed
use Rattle.md_beside.specs.Story.{Story, Step, ours, another, step_at, state, box, history}
use Rattle.md_beside.specs.Beside.{IsStory, IsAtWork, AreOurs, AreApart, IsAnswered, Acts, IsClean, Says, IsWholeOf}

-- ---- kinds of calls

-- it takes a message to another folder
abbrev pub IsMove : Call → Type 0
IsMove (call.Move folder u to tries) = Unit {0}
IsMove c = ⊥

-- it looks in new and then in cur
abbrev pub LooksInBoth : Call → Type 0
LooksInBoth (call.Move folder u to tries) = Unit {0}
LooksInBoth (call.Copy folder u to fresh tries) = Unit {0}
LooksInBoth c = ⊥

-- ---- what the others owe

-- To each job: no step gives a message a second path, in its folder or in another. Between the look of an errand and its act others may
-- rename the message or take it away, give its name to another file, and write to its file.
pub record OwesJobs (h : History) : Type 0 where
  pub one_name : law.TwoNames h → ⊥
  pub one_folder : owed.InTwoFolders h → ⊥

-- To deliveries also: no step writes to a file that another made, or gives a path to a file that another made and that readers don't see.
pub record OwesDeliveries (h : History) : Type 0 where
  pub unmixed : law.Mixed h → ⊥
  pub unnamed : owed.NamedByAnother h → ⊥

-- it is so after each step of another program
abbrev pub Others : (History → Type 0) → Story → Type 0
Others P t = (k : ℕ) (x : Step) (actor : List ℕ) → step_at t k ≡ Some x → x.who ≡ another actor → P (history t (suc k))

-- the others do what they owe to the jobs that take a step
pub record AreLawful (t : Story) : Type 0 where
  pub to_jobs : Others OwesJobs t
  pub to_deliveries : (job : ℕ) (c : Call) → call_at t.calls job ≡ Some c → IsAtWork t job → IsDelivery c → Others OwesDeliveries t

-- no clock is more than 4 hours from that of the directories, and no clean's is ahead of it
pub record AreNear (t : Story) : Type 0 where
  pub near : AreApart t 14400
  pub behind : (k job : ℕ) (x : Step) (c : Call) → step_at t k ≡ Some x → x.who ≡ ours job → call_at t.calls job ≡ Some c → IsClean c
      → x.at.own ≤ x.at.clock

-- A clean of ours has time between its look and its act: the others make no name of tmp again and write to no file that was left for 36
-- hours, and clocks are near.
pub record AreTimely (t : Story) : Type 0 where
  pub unmade : Others (λ h. owed.MadeAgain h → ⊥) t
  pub in_time : Others (λ h. owed.WrittenLate h → ⊥) t
  pub clocks : AreNear t

-- the others leave the young files of tmp, and so do the cleans of ours where they have no such time
pub record AreSparing (t : Story) : Type 0 where
  pub others : Others (λ h. law.CleanedEarly h → ⊥) t
  pub cleans : (AreTimely t → ⊥) → (k job folder : ℕ) (x : Step) → step_at t k ≡ Some x → x.who ≡ ours job
      → call_at t.calls job ≡ Some (call.Clean folder) → law.CleanedEarly (history t (suc k)) → ⊥

-- the others name no message in new that was read, unless it comes from new
abbrev pub AreForward : Story → Type 0
AreForward = Others (λ h. law.MovedBack h → ⊥)

-- the others use no unique name again
abbrev pub AreUsedOnce : Story → Type 0
AreUsedOnce = Others (λ h. owed.UsedTwice h → ⊥)

-- ---- the law

-- Which clauses a step of a job may break. A delivery doesn't flush what it delivers, and may write late if clocks are apart. A Move and
-- a Copy look in new before cur, and so may miss a message that goes from cur to new. A Move may bring a message to a folder that had
-- another of its name, where the others use names again. A clean may take a young file away that has the name of an old one, or was
-- written to since it was listed, where others make names again or write late, or clocks are apart.
abbrev pub MayBreak : Story → Call → Clause → Type 0
MayBreak t c clause.NotFlushed = IsDelivery c
MayBreak t c clause.Unlisted = LooksInBoth c
MayBreak t c clause.UsedAgain = IsMove c × (AreUsedOnce t → ⊥)
MayBreak t c clause.CleanedEarly = IsClean c × (AreTimely t → ⊥)
MayBreak t c clause.WrittenLate = IsDelivery c × (AreApart t 14400 → ⊥)
MayBreak t c b = ⊥

-- What a job promises: each step of its own is its call's effect, alone on the mailbox as the others left it, or leaves the mailbox as it
-- was. If it is answered with success, one step of its own is that effect, with this answer. If not, none is, and the answer says what was
-- so at a moment of its span, or that others took its message away as often as it has tries, or its file in tmp, or that 24 hours went by,
-- or that a directory call of its own faulted, or how many old files a clean took. No message ever has two paths, and one that was
-- delivered has the bytes of the body for as long as readers see it. No delivery is answered that its file in tmp was gone, if nobody takes
-- young files and no clock of ours is more than 4 hours from that of the directories. No step of its own breaks a clause, of the law or of
-- what is owed, but those that its call may break.
pub record KeepsPromise (t : Story) (job : ℕ) (c : Call) : Type 0 where
  pub as_alone : (k : ℕ) (x : Step) → step_at t k ≡ Some x → x.who ≡ ours job → AsAlone c x.effect (box t k) (box t (suc k))
  pub acts : (a : Answer) → IsAnswered t job a → Acts t job c a
  pub says : (LooksInBoth c → AreForward t) → (a : Answer) → IsAnswered t job a → Says t job c a
  pub one_path : (k : ℕ) → HasOnePath (state t k)
  pub whole : (k : ℕ) → IsWholeOf t k c
  pub never_gone : AreApart t 14400 → AreSparing t → IsAnswered t job answer.TmpGone → ⊥
  pub lawful : (k : ℕ) (x : Step) (b : Clause) → step_at t k ≡ Some x → x.who ≡ ours job → (MayBreak t c b → ⊥)
      → Breaks b (history t (suc k)) → ⊥

-- In any story where the names are ours and the others do what they owe, each job of ours that takes a step keeps its promise.
abbrev pub JobsBeside : Type 0
JobsBeside = (t : Story) → IsStory t → AreOurs t → AreLawful t
    → (job : ℕ) (c : Call) → call_at t.calls job ≡ Some c → IsAtWork t job → KeepsPromise t job c
