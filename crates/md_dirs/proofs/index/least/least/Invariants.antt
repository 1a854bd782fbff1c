use Rattle.std.proofs.Common.{◌≡◌, ◌++◌, drop}
use Rattle.std.specs.Option.{option_map}
use Rattle.md_dirs.specs.Least.{lent_row, takes}
use Rattle.md_dirs.proofs.Least.{joined, best}
use Rattle.md_dirs.proofs.index.least.least.Given as goal

-- what was found so far, before what is found in the rest, is what is found in all
abbrev pub invariant-loop-at : goal.invariant-loop-at
invariant-loop-at l =
    joined (option_map lent_row l.best) (best (takes l.wanted) (drop l.at (l.table.keys ++ l.others.entries)))
    ≡ best (takes l.wanted) (l.table.keys ++ l.others.entries)

abbrev pub invariant-loop-at-2 : goal.invariant-loop-at-2
invariant-loop-at-2 l =
    joined (option_map lent_row l.best) (best (takes l.wanted) (drop l.at l.others.entries))
    ≡ best (takes l.wanted) (l.table.keys ++ l.others.entries)
