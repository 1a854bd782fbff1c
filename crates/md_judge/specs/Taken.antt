-- What is answered of the lines of a log, and what a session holds that has taken them in.
use Rattle.std.specs.Prelude.{ℕ, suc, ◌≡◌, ◌≢◌, List, [], ◌∷◌, ◌++◌, take, length, Result, Ok, Err, IsOk}
use Rattle.md_law.specs.Values.{Clause}
use Rattle.md_log.specs.declared.clause.Clause.TheVariants.{InTwoFolders, NamedByAnother, Rewritten, UsedTwice, MadeAgain, WrittenLate}
use Rattle.md_log.specs.declared.error.LineFault.{LineFault}
use Rattle.md_log.specs.declared.error.LineFault.TheVariants.{NoMemory, NoOrder, TooManyOrders}
use Rattle.md_log.specs.declared.error.LogFault.{LogFault}
use Rattle.md_judge.specs.declared.session.Session.{Session}
use Rattle.md_judge.specs.Logs.{Log, empty_log, log_by}
use Rattle.md_judge.specs.Orders.{AreFoundInOrder}
use Rattle.md_judge.specs.Verdict.{AreInOrder, HasNoTicks}
use Rattle.md_judge.specs.Placed.{HasPlaced}

-- no beginning of the lines is a log in which a step has ticks
abbrev pub IsWithoutTicks : List (List ℕ) → Type 0
IsWithoutTicks texts = (n : ℕ) (l : Log) → log_by (take n texts) ≡ Ok l → HasNoTicks l

-- What is answered of a line of the beginning is what the log does: it takes the line, or it refuses it by this fault. But memory may be
-- refused.
abbrev pub Agrees : {A : Type 0} → Result A LineFault → Result Log LineFault → Type 0
Agrees (Ok x) log = IsOk log
Agrees (Err fault) log = fault ≢ NoMemory → log ≡ Err fault

-- What is answered of lines is what they are: a log, or none by this first wrong line. But memory may be refused.
abbrev pub Answers : {A : Type 0} → Result A LogFault → Result Log LogFault → Type 0
Answers (Ok x) log = IsOk log
Answers (Err e) log = e.fault ≢ NoMemory → log ≡ Err e

-- What is answered of any lines is what they are, unless memory is refused or no order is found.
abbrev pub AnswersAny : {A : Type 0} → Result A LogFault → Result Log LogFault → Type 0
AnswersAny (Ok x) log = IsOk log
AnswersAny (Err e) log = e.fault ≢ NoMemory → e.fault ≢ NoOrder → e.fault ≢ TooManyOrders → log ≡ Err e

-- a log of which these clauses are not judged either
abbrev pub with_given : List Clause → Log → Log
with_given given l = record l { allowed = l.allowed ++ given }

-- the clauses that are owed beside the law
unfoldable pub beside_law : List Clause
beside_law = InTwoFolders ∷ NamedByAnother ∷ Rewritten ∷ UsedTwice ∷ MadeAgain ∷ WrittenLate ∷ []

-- a log that is judged by the law alone
abbrev pub by_law : Log → Log
by_law l = with_given beside_law l

-- A session was told not to judge these clauses, and has taken in these lines, of which the first is the head. They are a log, and it has
-- read that log, of which those clauses are not judged either.
pub record HasTaken (given : List Clause) (texts : List (List ℕ)) (s : Session) : Type 0 where
  pub lines : s.lines ≡ length texts
  pub none : texts ≡ [] → HasPlaced 2 (with_given given empty_log) s
  pub log : texts ≢ [] → IsOk (log_by texts)
  pub placed : (l : Log) → log_by texts ≡ Ok l → HasPlaced (suc (length texts)) (with_given given l) s

-- A session was told not to judge these clauses, and has taken in these lines to the end: what it found is what is found of the log that
-- they are, of which those clauses are not judged either, and it is in order.
pub record HasEnded (given : List Clause) (texts : List (List ℕ)) (s : Session) : Type 0 where
  pub found : (l : Log) → log_by texts ≡ Ok l → AreFoundInOrder (with_given given l) s.findings.items
  pub ordered : (l : Log) → log_by texts ≡ Ok l → AreInOrder s.findings.items
