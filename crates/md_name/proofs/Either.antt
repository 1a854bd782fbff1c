-- Whether an element meets one of some tests.
use Rattle.std.proofs.Common.{◌≡◌, ℕ, List, [], ◌∷◌, Bool, true, false, not, ◌||◌, ◌&&◌, length, refl, ap, sym, ◌∙◌, arith}
use Rattle.std.specs.Prelude.{nat_lt, nat_le}
use Rattle.std.specs.List.{list_any}
use Rattle.md_name.specs.Names.{is_barred, is_colon, is_slash, is_terminator, begins_with_dot, is_maildir_unique, is_unique_name}

pub either_first : (a b c d : Bool) → ((a || b) || (c || d)) ≡ ((a || c) || (b || d))
either_first true b c d = refl
either_first false true true d = refl
either_first false true false d = refl
either_first false false c d = refl

pub any-either : {X : Type 0} (p q : X → Bool) (xs : List X) → (list_any p xs || list_any q xs) ≡ list_any (λ x. p x || q x) xs
any-either p q [] = refl
any-either p q (x ∷ xs) = either_first (p x) (list_any p xs) (q x) (list_any q xs) ∙ ap (λ b. (p x || q x) || b) (any-either p q xs)

any-barred : (name : List ℕ) → list_any is_barred name ≡ ((list_any is_terminator name || list_any is_slash name) || list_any is_colon name)
any-barred name =
    let two = ap (λ b. b || list_any is_colon name) (any-either is_terminator is_slash name) in
    sym (two ∙ any-either (λ b. is_terminator b || is_slash b) is_colon name)

-- each test in turn, or those of the bytes at once
at_once : (first short end slash colon : Bool)
    → (((first && not colon) && not slash) && short && not end) ≡ (first && short && not ((end || slash) || colon))
at_once first short end slash colon = grind arith

pub unique_by_barred : (name : List ℕ) → is_unique_name name
    ≡ (nat_lt 0 (length name) && not (begins_with_dot name) && nat_le (length name) 200 && not (list_any is_barred name))
unfolding is_unique_name is_maildir_unique
unique_by_barred name =
    let front : Bool = nat_lt 0 (length name) && not (begins_with_dot name) in
    at_once front (nat_le (length name) 200) (list_any is_terminator name) (list_any is_slash name) (list_any is_colon name)
    ∙ ap (λ b. front && nat_le (length name) 200 && not b) (sym (any-barred name))
