-- Facts of each element of a list, element by element.
use Rattle.std.proofs.Common.{◌≡◌, suc, ◌+◌, Bool, true, List, [], ◌∷◌, ◌++◌, length, take, drop, Option, None, Some, refl, ap, ◌∙◌, arith, cond}
use Rattle.std.proofs.lemmas.List.{take_at, drop_at}
use Rattle.std.proofs.lemmas.List.Elements.{All-nil, All-cons, All-append}
use Rattle.std.proofs.lemmas.List.Sums.{take_while-cons}
use Rattle.std.specs.List.{AllPass, prefix_len, take_while}
pub use Rattle.std.proofs.lemmas.List.Elements.{All-head as all_head, All-tail as all_tail}

pub pass_head : {X : Type 0} (p : X → Bool) (x : X) (xs : List X) → AllPass p (x ∷ xs) → p x ≡ true
pass_head p = all_head (λ x. p x ≡ true)

pub pass_tail : {X : Type 0} (p : X → Bool) (x : X) (xs : List X) → AllPass p (x ∷ xs) → AllPass p xs
pass_tail p = all_tail (λ x. p x ≡ true)

pub pass_nil : {X : Type 0} (p : X → Bool) → AllPass p []
pass_nil p = All-nil (λ x. p x ≡ true)

pub pass_cons : {X : Type 0} (p : X → Bool) (x : X) (xs : List X) → p x ≡ true → AllPass p xs → AllPass p (x ∷ xs)
pass_cons p = All-cons (λ x. p x ≡ true)

pub pass_append : {X : Type 0} (p : X → Bool) (xs ys : List X) → AllPass p xs → AllPass p ys → AllPass p (xs ++ ys)
pass_append p = All-append (λ x. p x ≡ true)

-- the elements that pass end where the others begin
pub prefix_stops : {X : Type 0} (p : X → Bool) (xs ys : List X) → AllPass p xs → prefix_len p ys ≡ 0 → prefix_len p (xs ++ ys) ≡ length xs
prefix_stops p [] ys h e = e
prefix_stops p (x ∷ xs) ys h e =
    let one : 1 + length xs ≡ suc (length xs) = omega arith in
    ap (λ b. cond b (1 + prefix_len p (xs ++ ys)) 0) (pass_head p x xs h) ∙ ap (λ n. 1 + n) (prefix_stops p xs ys (pass_tail p x xs h) e) ∙ one

-- and the taking of those that pass goes on behind them
pub take_passing : {X : Type 0} (p : X → Bool) (xs ys : List X) → AllPass p xs → take_while p (xs ++ ys) ≡ xs ++ take_while p ys
take_passing p [] ys h = refl
take_passing p (x ∷ xs) ys h =
    take_while-cons p x (xs ++ ys) ∙ ap (λ b. cond b (x ∷ take_while p (xs ++ ys)) []) (pass_head p x xs h)
    ∙ ap (λ t. x ∷ t) (take_passing p xs ys (pass_tail p x xs h))

pub take_front : {X : Type 0} (xs ys : List X) → take (length xs) (xs ++ ys) ≡ xs
take_front xs ys = take_at xs ys (length xs) refl

pub drop_front : {X : Type 0} (xs ys : List X) → drop (length xs) (xs ++ ys) ≡ ys
drop_front xs ys = drop_at xs ys (length xs) refl

pub none_no_some : {X : Type 0} {x : X} (o : Option X) → o ≡ None → o ≡ Some x → ⊥
none_no_some o none some = cc
