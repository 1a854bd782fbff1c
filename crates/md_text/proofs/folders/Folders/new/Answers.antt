use Rattle.std.proofs.Common.{arith}
use Rattle.md_text.proofs.Numbered.{fresh}
use Rattle.md_text.proofs.folders.Folders.new.Goals as goal

pub invariant_of-result : goal.invariant_of-result
invariant_of-result c = (omega (arith, c.new.ensures.len), fresh c.new.result.items c.new-2.result.entries c.new.ensures.items c.new-2.ensures.empty)
