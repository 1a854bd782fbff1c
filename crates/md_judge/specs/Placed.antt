-- What a session holds that has read a log in which calls may overlap.
use Rattle.std.specs.Prelude.{ℕ, suc, ◌≡◌, ◌≢◌, ◌<◌, ◌+◌, ◌↔◌, ◌⊎◌, List, [], ◌++◌, ◌∷◌, Option, Some, None, length, slice_get, false}
use Rattle.md_law.specs.Values.{Clause, Step}
use Rattle.md_log.specs.declared.error.LineFault.{LineFault}
use Rattle.md_log.specs.declared.error.LineFault.TheVariants.{NoMemory, NoOrder, TooManyOrders}
use Rattle.md_log.specs.declared.line.Line.{Line}
use Rattle.md_log.specs.declared.line.Line.TheVariants as line
use Rattle.md_log.specs.declared.line.ticks.Ticks.{Ticks}
use Rattle.md_judge.specs.declared.log.Finding.{Finding}
use Rattle.md_judge.specs.declared.session.Session.{Session}
use Rattle.md_judge.specs.declared.stretch.Stretch.{Stretch}
use Rattle.md_judge.specs.declared.stretch.Waiting.{Waiting}
use Rattle.md_law.specs.History.{History, next}
use Rattle.md_law.specs.Law.{Breaks}
use Rattle.md_watch.specs.Watches.{Holds}
use Rattle.md_log.specs.Texts.{clause_index}
use Rattle.md_judge.specs.Clauses.{Has}
use Rattle.md_judge.specs.Logs.{Log, Numbered, has_begun}
use Rattle.md_judge.specs.Orders.{AreOfOneStretch, MayComeFirst, IsOrder, IsReordered, Fits, IsFindingIn}
use Rattle.md_judge.specs.Verdict.{history, HasNoTicks, IsAllowed, IsAmong, AreEarlier, AreInOrder}

-- the fault says nothing of a line: memory is refused, or no order is found
abbrev pub IsUnplaced : LineFault → Type 0
IsUnplaced fault = (fault ≡ NoMemory) ⊎ ((fault ≡ NoOrder) ⊎ (fault ≡ TooManyOrders))

-- ---- the steps that wait

-- the ticks of the step that waits at a place
abbrev pub ticks_of : Option (Option Waiting) → Option Ticks
ticks_of (Some (Some w)) = w.step.ticks
ticks_of (Some None) = None
ticks_of None = None

-- one more step waits
pub record AddsWaiting (line : ℕ) (step : Step) (old new : Stretch) : Type 0 where
  pub waiting : Waiting
  pub same : waiting.step ≡ step
  pub steps : new.steps.items ≡ old.steps.items ++ Some waiting ∷ []
  pub lines : new.lines.items ≡ old.lines.items ++ line ∷ []
  pub moved : new.moved ≡ old.moved

-- no step waits at the place any more, and the others wait as before
pub record TakesAt (at : ℕ) (old new : Stretch) : Type 0 where
  pub gone : (w : Waiting) → slice_get new.steps.items at ≡ Some (Some w) → ⊥
  pub others : (k : ℕ) → k ≢ at → slice_get new.steps.items k ≡ slice_get old.steps.items k
  pub lines : new.lines ≡ old.lines

-- in this order of the steps that wait none comes before one that had returned before it began
abbrev pub KeepsTicks : List (Option Waiting) → List ℕ → Type 0
KeepsTicks steps order = (a b i j : ℕ) → a < b → slice_get order a ≡ Some i → slice_get order b ≡ Some j
    → MayComeFirst (ticks_of (slice_get steps i)) (ticks_of (slice_get steps j))

-- ---- what was read

-- findings of one line stand in the order of the law
abbrev pub AreInOrderAtLines : List Finding → Type 0
AreInOrderAtLines found = (a b : ℕ) (f g : Finding) → a < b → slice_get found a ≡ Some f → slice_get found b ≡ Some g → f.line ≡ g.line
    → clause_index f.clause < clause_index g.clause

-- and those of this line are of clauses that come before the one of this number
abbrev pub AreBelowAtLine : List Finding → ℕ → ℕ → Type 0
AreBelowAtLine found line i = (k : ℕ) (f : Finding) → slice_get found k ≡ Some f → f.line ≡ line → clause_index f.clause < i

-- The lines of a log's steps rise, and are before this one.
pub record AreNumberedTo (number : ℕ) (l : Log) : Type 0 where
  pub rises : (a b : ℕ) (x y : Numbered) → a < b → slice_get l.steps a ≡ Some x → slice_get l.steps b ≡ Some y → x.number < y.number
  pub below : (k : ℕ) (x : Numbered) → slice_get l.steps k ≡ Some x → x.number < number

-- The steps of a log from a place on wait: they have ticks, and the step before them has none.
pub record AreWaiting (from : ℕ) (l : Log) (stretch : Stretch) : Type 0 where
  pub many : from + length stretch.steps.items ≡ length l.steps
  pub long : length stretch.lines.items ≡ length stretch.steps.items
  pub steps : (k : ℕ) (w : Option Waiting) (x : Numbered) → slice_get stretch.steps.items k ≡ Some w → slice_get l.steps (from + k) ≡ Some x
      → (v : Waiting) × (w ≡ Some v) × (v.step ≡ x.step)
  pub lines : (k : ℕ) (x : Numbered) → slice_get l.steps (from + k) ≡ Some x → slice_get stretch.lines.items k ≡ Some x.number
  pub ticks : (k : ℕ) (x : Numbered) → slice_get l.steps (from + k) ≡ Some x → x.step.ticks ≢ None
  pub begins : (k : ℕ) (x : Numbered) → suc k ≡ from → slice_get l.steps k ≡ Some x → x.step.ticks ≡ None

-- A session has judged steps of this log in this order, which gives the second log.
pub record HasJudged (number : ℕ) (l : Log) (order : List ℕ) (m : Log) (s : Session) : Type 0 where
  pub may : IsOrder l order
  pub same : IsReordered order l m
  pub fits : Fits m
  pub holds : Holds (history m (length order)) s.watch
  pub allowed : (c : Clause) → Has s.allowed c ↔ IsAllowed l c
  pub found : (n : ℕ) (c : Clause) → IsAmong s.findings.items n c ↔ IsFindingIn order l m n c
  pub at_lines : AreInOrderAtLines s.findings.items
  pub unmoved : s.stretch.moved ≡ false → (a i : ℕ) → slice_get order a ≡ Some i → i ≡ a
  pub ordered : s.stretch.moved ≡ false → AreInOrder s.findings.items
  pub plain : HasNoTicks l → s.stretch.moved ≡ false

-- The step at a place of a log may come next in an order.
pub record MayComeNext (l : Log) (order : List ℕ) (i : ℕ) : Type 0 where
  pub fresh : (a : ℕ) → slice_get order a ≡ Some i → ⊥
  pub near : (a j : ℕ) → slice_get order a ≡ Some j → i < j → AreOfOneStretch l i j
  pub ticks : (a j : ℕ) (x y : Numbered) → slice_get order a ≡ Some j → AreOfOneStretch l j i → slice_get l.steps j ≡ Some x
      → slice_get l.steps i ≡ Some y → MayComeFirst x.step.ticks y.step.ticks

-- The first step of a log stands at the next place of an order. The second, which waits at this place of a stretch, may come there.
pub record IsNextStep (l : Log) (order : List ℕ) (i : ℕ) (x y : Numbered) (place at : ℕ) (stretch : Stretch) : Type 0 where
  pub here : slice_get l.steps (length order) ≡ Some x
  pub there : slice_get l.steps i ≡ Some y
  pub moment : slice_get stretch.lines.items place ≡ Some x.number
  pub line : slice_get stretch.lines.items at ≡ Some y.number
  pub waits : (w : Waiting) → slice_get stretch.steps.items at ≡ Some (Some w) → w.step ≡ y.step
  pub comes : MayComeNext l order i

-- A session has read the lines before this one, which are this log.
pub record HasLines (number : ℕ) (l : Log) (s : Session) : Type 0 where
  pub folders : s.folders ≡ l.folders
  pub housed : l.opening.folders ≡ length l.folders
  pub numbered : AreNumberedTo number l

-- It has judged the first steps of the log, in an order of them, and the others wait.
pub record HasWaiting (number : ℕ) (l : Log) (s : Session) : Type 0 where
  pub order : List ℕ
  pub log : Log
  pub read : HasLines number l s
  pub judged : HasJudged number l order log s
  pub placed : (a i : ℕ) → slice_get order a ≡ Some i → i < length order
  pub waits : AreWaiting (length order) l s.stretch

-- A session has read a log, and is to read the line of this number.
pub record HasPlaced (number : ℕ) (l : Log) (s : Session) : Type 0 where
  pub begun : s.has_begun ≡ has_begun l
  pub waiting : HasWaiting number l s

-- It has judged all steps of the log, in an order of them, and none waits.
pub record HasSettled (number : ℕ) (l : Log) (s : Session) : Type 0 where
  pub order : List ℕ
  pub log : Log
  pub read : HasLines number l s
  pub judged : HasJudged number l order log s
  pub all : length order ≡ length l.steps
  pub steps : s.stretch.steps.items ≡ []
  pub lines : s.stretch.lines.items ≡ []

-- ---- how it goes on

-- a line of the beginning
abbrev pub IsHead : Line → Type 0
IsHead (line.Step step) = ⊥
IsHead other = Unit {0}

-- Of the clause a finding of this line is added where this holds, and no other.
abbrev pub AddsFinding : Clause → ℕ → Type 0 → Session → Session → Type 0
AddsFinding c number P old new = (n : ℕ) → IsAmong new.findings.items n c ↔ (IsAmong old.findings.items n c ⊎ ((number ≡ n) × P))

-- Nothing changes but what is kept and found.
pub record KeepsHead (old new : Session) : Type 0 where
  pub folders : new.folders ≡ old.folders
  pub begun : new.has_begun ≡ old.has_begun
  pub stretch : new.stretch ≡ old.stretch
  pub allowed : new.allowed ≡ old.allowed

-- A session judges a step of this line after a history.
pub record Judges (h : History) (line : ℕ) (x : Step) (old new : Session) : Type 0 where
  pub allowed : new.allowed ≡ old.allowed
  pub holds : Holds (next h x) new.watch
  pub found : (c : Clause) → AddsFinding c line (Breaks c (next h x) × (Has old.allowed c → ⊥)) old new
  pub ordered : AreInOrder old.findings.items → AreEarlier old.findings.items line 0 → AreInOrder new.findings.items
  pub at_lines : AreInOrderAtLines old.findings.items → AreBelowAtLine old.findings.items line 0 → AreInOrderAtLines new.findings.items

-- At the beginning nothing changes but the folders and what the watch holds.
pub record KeepsBeginning (old new : Session) : Type 0 where
  pub begun : new.has_begun ≡ old.has_begun
  pub stretch : new.stretch ≡ old.stretch
  pub allowed : new.allowed ≡ old.allowed
  pub findings : new.findings ≡ old.findings
