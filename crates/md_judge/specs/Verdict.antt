-- What is found of a whole log.
use Rattle.std.specs.Prelude.{ℕ, suc, ◌≡◌, ◌<◌, ◌⊎◌, List, Some, None, fold, take, slice_get}
use Rattle.md_law.specs.Values.{Clause, Step}
use Rattle.md_law.specs.History.{History, opening, next}
use Rattle.md_law.specs.Law.{Breaks}
use Rattle.md_judge.specs.declared.log.Finding.{Finding}
use Rattle.md_log.specs.Texts.{clause_index}
use Rattle.md_judge.specs.Logs.{Log, Numbered}

-- ---- the history that a log tells

-- before its first step
abbrev pub beginning : Log → History
beginning l = opening (record { state = l.opening; now = 0 })

-- and up to a step
abbrev pub history : Log → ℕ → History
history l i = fold (λ h (x : Numbered). next h x.step) (beginning l) (take i l.steps)

-- no step of the log has ticks
abbrev pub HasNoTicks : Log → Type 0
HasNoTicks l = (k : ℕ) (x : Numbered) → slice_get l.steps k ≡ Some x → x.step.ticks ≡ None

-- ---- findings

-- a line of the log says that the clause is not judged
abbrev pub IsAllowed : Log → Clause → Type 0
IsAllowed l c = (k : ℕ) × (slice_get l.allowed k ≡ Some c)

-- A finding is the number of a line, and a clause that is judged and that the line's step breaks.
abbrev pub IsFinding : Log → ℕ → Clause → Type 0
IsFinding l number c = (IsAllowed l c → ⊥) × ((i : ℕ) × (x : Step)
    × (slice_get l.steps i ≡ Some (record { number = number; step = x })) × Breaks c (history l (suc i)))

-- a finding of this line and clause is among these
abbrev pub IsAmong : List Finding → ℕ → Clause → Type 0
IsAmong found number c = (k : ℕ) × (f : Finding) × (slice_get found k ≡ Some f) × (f.line ≡ number) × (f.clause ≡ c)

-- a finding is of an earlier line, or of this line and of a clause that comes before the one of this number in the order of the law
abbrev pub IsEarlier : Finding → ℕ → ℕ → Type 0
IsEarlier f line i = (f.line < line) ⊎ ((f.line ≡ line) × (clause_index f.clause < i))

-- each of the findings is
abbrev pub AreEarlier : List Finding → ℕ → ℕ → Type 0
AreEarlier found line i = (k : ℕ) (f : Finding) → slice_get found k ≡ Some f → IsEarlier f line i

-- Each finding comes before those of later lines, and before those of its line whose clauses come later in the law. So none is there twice.
abbrev pub AreInOrder : List Finding → Type 0
AreInOrder found =
    (a b : ℕ) (f g : Finding) → a < b → slice_get found a ≡ Some f → slice_get found b ≡ Some g → IsEarlier f g.line (clause_index g.clause)
