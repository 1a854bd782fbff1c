use Rattle.md_name.proofs.Bits.{letters_in-zero}
use Rattle.md_name.proofs.flags.Flags.empty.Goals as goal

pub returns : goal.returns
returns c = letters_in-zero
