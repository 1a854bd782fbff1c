use Rattle.std.proofs.Common.{◌∙◌, ap}
use Rattle.std.proofs.lemmas.Nat.{or_lt}
use Rattle.std.specs.FinSet as set
use Rattle.md_name.specs.Words.{letters_in}
use Rattle.md_name.proofs.Bits.{letters_in-or}
use Rattle.md_name.proofs.flags.Flags.with.Goals as goal

pub invariant_of-result : goal.invariant_of-result
invariant_of-result c = or_lt 52 c.self.inside.word c.other.inside.word c.self.invariant c.other.invariant

pub returns : goal.returns
returns c =
    letters_in-or c.self.inside.word c.other.inside.word
    ∙ ap (λ s. set.union s (letters_in c.other.inside.word)) c.self.view_is
    ∙ ap (λ s. set.union c.args.self s) c.other.view_is
