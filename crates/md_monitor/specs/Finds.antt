-- What is said of the monitor.
use Rattle.std.specs.Prelude.{◌≡◌, ◌↔◌, true}
use Rattle.md_law.specs.Values.{Clause, Step}
use Rattle.md_law.specs.History.{History, next, at, now}
use Rattle.md_law.specs.Law.{Breaks}
use Rattle.md_monitor.specs.Judged.{kept_of, kept_next, finds}

-- What the monitor keeps after a step is a function of the directories before the step, the clock after it, the step, and what it kept
-- before.
abbrev pub Keeps : Type 0
Keeps = (past : History) (x : Step) → kept_of (next past x) ≡ kept_next (at past) (now (next past x)) x (kept_of past)

-- Of each step, and of each clause, the monitor says by what it kept before whether the step breaks the clause.
abbrev pub Finds : Type 0
Finds = (past : History) (x : Step) (c : Clause)
    → (finds (at past) (now (next past x)) (kept_of past) x c ≡ true) ↔ Breaks c (next past x)
