-- The orders in which the steps of a log whose calls overlap may take effect, and what is found in such an order.
use Rattle.std.specs.Prelude.{ℕ, suc, ◌≡◌, ◌≢◌, ◌<◌, ◌≤◌, ◌↔◌, ◌⊎◌, List, Option, Some, None, length, slice_get}
use Rattle.md_law.specs.Values.{Clause, Step}
use Rattle.md_log.specs.declared.line.ticks.Ticks.{Ticks}
use Rattle.md_judge.specs.declared.log.Finding.{Finding}
use Rattle.md_law.specs.Clauses.{NotADirectory}
use Rattle.md_law.specs.Law.{Breaks}
use Rattle.md_judge.specs.Logs.{Log, Numbered}
use Rattle.md_judge.specs.Verdict.{history, IsAllowed, IsAmong}

-- The steps between two places of a log, these too, have ticks: they are of one stretch.
abbrev pub AreOfOneStretch : Log → ℕ → ℕ → Type 0
AreOfOneStretch l a b =
    (k : ℕ) (x : Numbered) → ((a ≤ k) × (k ≤ b)) ⊎ ((b ≤ k) × (k ≤ a)) → slice_get l.steps k ≡ Some x → x.step.ticks ≢ None

-- A call may take effect before another: it did not begin after the other had returned.
abbrev pub MayComeFirst : Option Ticks → Option Ticks → Type 0
MayComeFirst (Some x) (Some y) = x.begin ≤ y.end
MayComeFirst (Some x) None = Unit {0}
MayComeFirst None y = Unit {0}

-- Steps of a log, which stand at these places, may take effect in this order: each comes once, only steps of one stretch change places, and
-- of these none comes before one that had returned before it began.
pub record IsOrder (l : Log) (order : List ℕ) : Type 0 where
  pub within : (a i : ℕ) → slice_get order a ≡ Some i → i < length l.steps
  pub once : (a b i : ℕ) → slice_get order a ≡ Some i → slice_get order b ≡ Some i → a ≡ b
  pub near : (a b i j : ℕ) → a < b → slice_get order a ≡ Some i → slice_get order b ≡ Some j → j < i → AreOfOneStretch l j i
  pub ticks : (a b i j : ℕ) (x y : Numbered) → a < b → slice_get order a ≡ Some i → slice_get order b ≡ Some j → AreOfOneStretch l i j
      → slice_get l.steps i ≡ Some x → slice_get l.steps j ≡ Some y → MayComeFirst x.step.ticks y.step.ticks

-- The second log is the first with the steps of these places in this order, each at the line of the one that stood there.
pub record IsReordered (order : List ℕ) (l m : Log) : Type 0 where
  pub rest : m ≡ record l { steps = m.steps }
  pub many : length m.steps ≡ length order
  pub steps : (a i : ℕ) (x y : Numbered) → slice_get order a ≡ Some i → slice_get l.steps a ≡ Some x → slice_get l.steps i ≡ Some y
      → slice_get m.steps a ≡ Some (record { number = x.number; step = y.step })

-- In a log directories give the reply of each step that has ticks.
abbrev pub Fits : Log → Type 0
Fits m = (a : ℕ) (x : Numbered) → slice_get m.steps a ≡ Some x → x.step.ticks ≢ None → NotADirectory (history m (suc a)) → ⊥

-- A finding where the steps of the first log take effect in this order, which gives the second log: the number of a line, and a clause that
-- is judged and that the line's step breaks where it comes.
abbrev pub IsFindingIn : List ℕ → Log → Log → ℕ → Clause → Type 0
IsFindingIn order l m number c = (IsAllowed l c → ⊥)
    × ((a : ℕ) × (i : ℕ) × (x : Step) × (slice_get order a ≡ Some i)
    × (slice_get l.steps i ≡ Some (record { number = number; step = x })) × Breaks c (history m (suc a)))

-- The findings are those of the law where the steps of the log take effect in an order in which they may, each once, and in which
-- directories give the reply of every step that has ticks.
pub record AreFoundInOrder (l : Log) (findings : List Finding) : Type 0 where
  pub order : List ℕ
  pub log : Log
  pub all : length order ≡ length l.steps
  pub may : IsOrder l order
  pub same : IsReordered order l log
  pub fits : Fits log
  pub found : (number : ℕ) (c : Clause) → IsAmong findings number c ↔ IsFindingIn order l log number c
