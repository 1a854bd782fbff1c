-- What the answer of a turn tells, whatever its task.
use Rattle.std.proofs.Common.{◌≡◌, Option, Some, None, subst, MatchOption}
use Rattle.md_core.proofs.Values.{State, Call, DirReply, Task, Deliver, Errand, Clean, Answer, After}
use Rattle.md_jobs.specs.declared.answer.Answer.TheVariants as answer
use Rattle.md_core.proofs.Answers.Turns.OneMessage.{Tells}
use Rattle.md_core.proofs.Answers.Turns.OfDeliver.{DeliveryTells}
use Rattle.md_core.proofs.Answers.Turns.OfClean.{CleanTells}
use Rattle.md_core.proofs.Answers.Turns.EachSays.{TaskSays}

-- what an option that is known matches
pub at-none : {A : Type 0} (o : Option A) (P : Type 0) (Q : A → Type 0) → o ≡ None → MatchOption o P Q → P
at-none o P Q is h = subst (λ x. MatchOption x P Q) is h

pub at-some : {A : Type 0} (o : Option A) (P : Type 0) (Q : A → Type 0) (a : A) → o ≡ Some a → MatchOption o P Q → Q a
at-some o P Q a is h = subst (λ x. MatchOption x P Q) is h

-- the answers of a look-up, and that of a message that is lost
abbrev pub IsOfLook : Answer → Type 0
IsOfLook answer.NotThere = Unit {0}
IsOfLook answer.NotTrashed = Unit {0}
IsOfLook answer.OtherInfo = Unit {0}
IsOfLook answer.Lost = Unit {0}
IsOfLook a = ⊥

-- what an answer tells of the turn that gave it, whatever the task
abbrev pub Told : State → Call → Task → DirReply → Answer → Type 0
Told s asked (Deliver d) given a = DeliveryTells d.stage given a
Told s asked (Errand e) given a = Tells s asked (Errand e) given a
Told s asked (Clean c) given a = CleanTells given a

pub told : (s s' : State) (asked : Call) (task : Task) (given : DirReply) (after : After Task) (a : Answer) →
    TaskSays s s' asked given task after → after.answer ≡ Some a → Told s asked task given a
told s s' asked (Deliver d) given after a says is = at-some after.answer _ _ a is says
told s s' asked other given after a says is = at-some after.answer _ _ a is says
