use Rattle.md_name.proofs.Sets.{IsOfLetters-letters_in}
use Rattle.md_name.proofs.flags.only_letters.Goals as goal

pub returns : goal.returns
returns c = rw (← c.flags.view_is) (IsOfLetters-letters_in c.flags.inside.word)
