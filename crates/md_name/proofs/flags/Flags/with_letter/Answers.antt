use Rattle.std.proofs.Common.{◌∙◌, ap, ◌*◌, ◌%◌, ◌^◌}
use Rattle.std.specs.Prelude.{bit_or}
use Rattle.std.proofs.lemmas.Nat.{or_lt}
use Rattle.std.specs.FinSet as set
use Rattle.md_name.specs.Words.{letters_in}
use Rattle.md_name.proofs.Bits.{letters_in-insert, bit_of-within}
use Rattle.md_name.proofs.flags.Flags.with_letter.Goals as goal

pub invariant_of-result : goal.invariant_of-result
invariant_of-result c = or_lt 52 c.self.inside.word _ c.self.invariant (bit_of-within c.place.result c.place.ensures.within)

pub returns : goal.returns
returns c =
    ap (λ k. letters_in (bit_or c.self.inside.word (1 * 2 ^ k % 2 ^ 64))) c.place.ensures.place
    ∙ letters_in-insert c.self.inside.word c.args.letter c.requires
    ∙ ap (λ s. set.insert s c.args.letter) c.self.view_is
