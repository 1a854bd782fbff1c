use Rattle.std.proofs.Common.{sym, ◌∙◌, ap}
use Rattle.std.specs.FinSet as set
use Rattle.md_name.specs.WordSets.{contains-letters_in}
use Rattle.md_name.proofs.Bits.{has_bit, no_letter}
use Rattle.md_name.proofs.flags.Flags.has.Goals as goal

pub returns-then-is_letter : goal.returns-then-is_letter
returns-then-is_letter c =
    has_bit c.self.inside.word c.place.result c.args.letter c.if-is_letter.ensures c.place.ensures.place
    ∙ sym (contains-letters_in c.self.inside.word c.args.letter) ∙ ap (λ s. set.contains s c.args.letter) c.self.view_is

pub returns-else-is_letter : goal.returns-else-is_letter
returns-else-is_letter c =
    no_letter c.is_letter.result c.self.inside.word c.args.letter c.if-is_letter.ensures c.if-is_letter.false
    ∙ sym (contains-letters_in c.self.inside.word c.args.letter) ∙ ap (λ s. set.contains s c.args.letter) c.self.view_is
