-- Texts that grow.
use Rattle.std.proofs.Common.{◌≡◌, ◌++◌, ℕ, List, ap, sym, ◌∙◌, append_assoc}

-- a text to which three others are appended, one after another
pub appended_thrice : (a e f g : List ℕ) {b c d : List ℕ} → b ≡ a ++ e → c ≡ b ++ f → d ≡ c ++ g → d ≡ a ++ (e ++ f ++ g)
appended_thrice a e f g first second third =
    third ∙ ap (λ t. t ++ g) second ∙ ap (λ t. t ++ f ++ g) first
    ∙ append_assoc (a ++ e) f g ∙ append_assoc a e (f ++ g) ∙ ap (λ t. a ++ t) (sym (append_assoc e f g))
