use Rattle.std.proofs.Common.{◌≡◌, ◌||◌, ◌==◌, ℕ, List, [], ◌∷◌, Bool, true, false, refl, ap, ◌∙◌}
use Rattle.std.specs.List.{list_any}
use Rattle.md_log.specs.Names.{is_barred}
use Rattle.md_log.proofs.names.has_barred.Goals as goal

swapped : (a b c d : Bool) → ((a || c) || (b || d)) ≡ ((a || b) || (c || d))
swapped true b c d = refl
swapped false true true d = refl
swapped false true false d = refl
swapped false false c d = refl

either : (name : List ℕ) → (list_any (λ b. b == 47) name || list_any (λ b. b == 0) name) ≡ list_any is_barred name
either [] = refl
either (b ∷ name) = swapped (b == 47) (b == 0) (list_any (λ b. b == 47) name) (list_any (λ b. b == 0) name)
    ∙ ap (λ rest. is_barred b || rest) (either name)

pub returns : goal.returns
returns c = (λ i. c.contains.ensures.value i || c.contains-2.ensures.value i) ∙ either c.args.name.now
