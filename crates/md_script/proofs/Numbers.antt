-- A number that the next word spells, as a script reads it.
use Rattle.std.proofs.Common.{◌≡◌, ◌∙◌, ap, ℕ, Ok, ok_or}
use Rattle.md_text.specs.Bind.{◌>>=◌}
use Rattle.md_text.specs.Words.{Rest, Spells, number_in}
use Rattle.md_script.specs.declared.error.PlayKind.TheVariants.{BadCommand, BadNumber}
use Rattle.md_script.specs.Words.{word_at, number_at}

pub spelled_number : (rest : Rest) (number : ℕ) (left : Rest) → Spells 20 rest number left → number_at rest ≡ Ok (number, left)
unfolding number_at word_at
spelled_number rest number left spells =
    ap (λ read. ok_or read BadCommand >>= (λ word. ok_or (number_in 20 word.0) BadNumber >>= (λ n. Ok (n, word.1)))) spells.next
    ∙ ap (λ read. ok_or read BadNumber >>= (λ n. Ok (n, left))) spells.is
