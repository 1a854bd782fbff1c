use Rattle.std.proofs.Common.{◌∙◌, ap, arith}
use Rattle.std.specs.FinSet as set
use Rattle.md_name.specs.Words.{letters_in}
use Rattle.md_name.proofs.Bits.{letters_in-and_not}
use Rattle.md_name.proofs.flags.Flags.without.Goals as goal

pub returns : goal.returns
returns c =
    letters_in-and_not c.self.inside.word c.other.inside.word (omega arith)
    ∙ ap (λ s. set.difference s (letters_in c.other.inside.word)) c.self.view_is
    ∙ ap (λ s. set.difference c.args.self s) c.other.view_is
