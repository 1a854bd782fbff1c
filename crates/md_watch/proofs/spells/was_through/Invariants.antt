use Rattle.std.proofs.Common.{◌≡◌, take}
use Rattle.md_watch.specs.Spells.{was_through}
use Rattle.md_watch.proofs.spells.was_through.Given as goal

-- what the earlier times say is what all say
abbrev pub invariant-loop-at : goal.invariant-loop-at
invariant-loop-at l = was_through (take l.at l.times) l.first l.last ≡ was_through l.times l.first l.last
