use Rattle.std.proofs.Common.{subst}
use Rattle.memchr.specs.Find.{IsFirstByte, is_byte}
use Rattle.md_text.proofs.Cuts.{cut_nowhere, cut_first}
use Rattle.md_text.proofs.words.cut_by.Goals as goal

pub returns-in-None : goal.returns-in-None
returns-in-None c = cut_nowhere c.args.byte c.args.text.now (subst (IsFirstByte (is_byte c.args.byte) c.args.text.now) c.in-None.is c.requires)

pub returns-in-Some : goal.returns-in-Some
returns-in-Some c = cut_first c.args.byte c.args.text.now c.in-Some.at (subst (IsFirstByte (is_byte c.args.byte) c.args.text.now) c.in-Some.is c.requires)
