-- The clauses that each call relies on, and the law of our jobs as it is where other programs keep all of them.
use Rattle.std.specs.Prelude.{ℕ, suc, ◌≡◌, List, [], ◌∷◌, Some, Contains, codes}
use Rattle.md_jobs.specs.declared.answer.Answer.{Answer}
use Rattle.md_jobs.specs.declared.answer.Answer.TheVariants as answer
use Rattle.md_jobs.specs.declared.call.Call.{Call}
use Rattle.md_jobs.specs.declared.call.Call.TheVariants as call
use Rattle.md_core.specs.Interleaving.{IsDelivery}
use Rattle.md_core.specs.Trace.{call_at}
use Rattle.md_log.specs.declared.clause.Clause.{Clause}
use Rattle.md_log.specs.declared.clause.Clause.TheVariants as clause
use Rattle.md_law.specs.Law.{Breaks}
use Rattle.md_beside.specs.Story.{Story, Step, ours, another, step_at, history}
use Rattle.md_beside.specs.Beside.{IsStory, IsAtWork, AreOurs, IsAnswered, Says}
use Rattle.md_beside.specs.Jobs.{LooksInBoth, AreNear, KeepsPromise}

-- the command that makes such a call
abbrev pub command_of : Call → List ℕ
command_of (call.Deliver folder u body chunk) = codes "deliver"
command_of (call.Seen folder u flags tries) = codes "seen"
command_of (call.Flag folder u add remove tries) = codes "flag"
command_of (call.Move folder u to tries) = codes "move"
command_of (call.Expunge folder u tries) = codes "expunge"
command_of (call.Copy folder u to fresh tries) = codes "copy"
command_of (call.Clean folder) = codes "clean"

-- the clauses that a call relies on
abbrev pub relied : Call → List Clause
relied (call.Deliver folder u body chunk) =
    clause.TwoNames ∷ clause.InTwoFolders ∷ clause.Mixed ∷ clause.NamedByAnother ∷ clause.CleanedEarly ∷ []
relied (call.Move folder u to tries) = clause.TwoNames ∷ clause.InTwoFolders ∷ clause.MovedBack ∷ clause.UsedTwice ∷ []
relied (call.Copy folder u to fresh tries) = clause.TwoNames ∷ clause.InTwoFolders ∷ clause.MovedBack ∷ []
relied (call.Clean folder) = clause.TwoNames ∷ clause.InTwoFolders ∷ clause.MadeAgain ∷ clause.WrittenLate ∷ []
relied c = clause.TwoNames ∷ clause.InTwoFolders ∷ []

-- no step of another program breaks a clause that the call relies on
abbrev pub AreKeptFor : Story → Call → Type 0
AreKeptFor t c = (k : ℕ) (x : Step) (actor : List ℕ) (b : Clause) → step_at t k ≡ Some x → x.who ≡ another actor
    → Contains (relied c) b → Breaks b (history t (suc k)) → ⊥

-- it is so for each job that takes a step
abbrev pub AreKept : Story → Type 0
AreKept t = (job : ℕ) (c : Call) → call_at t.calls job ≡ Some c → IsAtWork t job → AreKeptFor t c

-- Which clauses a step of a job may break even so: a delivery doesn't flush what it delivers, and a Move and a Copy may miss a message that
-- goes from cur to new.
abbrev pub IsLeft : Call → Clause → Type 0
IsLeft c clause.NotFlushed = IsDelivery c
IsLeft c clause.Unlisted = LooksInBoth c
IsLeft c b = ⊥

-- The promise of a job with no condition: each answer is true, no delivery is answered that its file in tmp was gone, and no step of the
-- job breaks a clause, but for those that are left.
pub record KeepsAll (t : Story) (job : ℕ) (c : Call) : Type 0 where
  pub promise : KeepsPromise t job c
  pub says : (a : Answer) → IsAnswered t job a → Says t job c a
  pub never_gone : IsAnswered t job answer.TmpGone → ⊥
  pub lawful : (k : ℕ) (x : Step) (b : Clause) → step_at t k ≡ Some x → x.who ≡ ours job → (IsLeft c b → ⊥)
      → Breaks b (history t (suc k)) → ⊥

-- In any story where the names are ours, clocks are near and the others keep what the calls of our jobs rely on, each job keeps all that it
-- promises.
abbrev pub JobsRely : Type 0
JobsRely = (t : Story) → IsStory t → AreOurs t → AreNear t → AreKept t
    → (job : ℕ) (c : Call) → call_at t.calls job ≡ Some c → IsAtWork t job → KeepsAll t job c
