use Rattle.std.proofs.Common.{◌≡◌, take}
use Rattle.std.specs.List.{flat_map}
use Rattle.md_maildirs.specs.Rows.{flaw_text}
use Rattle.md_maildirs.proofs.checking.lines_of.Given as goal

abbrev pub invariant-loop-flaw : goal.invariant-loop-flaw
invariant-loop-flaw l = l.text.items ≡ flat_map flaw_text (take l.flaw-index l.flaws)
