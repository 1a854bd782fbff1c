use Rattle.std.proofs.Common.{sym}
use Rattle.md_name.specs.WordSets.{word_of_seen}
use Rattle.md_name.proofs.flags.Flags.bits.Goals as goal

pub returns : goal.returns
returns c = sym (word_of_seen c.args.self c.self.inside.word c.self.invariant c.self.view_is)
