use Rattle.md_runs.proofs.words.counted.Goals as goal

pub returns-in_default-3 : goal.returns-in_default-3
returns-in_default-3 c = let none = rw c.in_default.is at c.operands.ensures in λ n h. none _ h.called
