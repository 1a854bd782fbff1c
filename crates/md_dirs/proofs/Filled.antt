-- Files of an image that are made in turn: what stays to be made, and what is refused.
use Rattle.std.proofs.Common.{◌≡◌, ◌⊎◌, inl, inr, ◌+◌, ◌<◌, ◌++◌, List, [], ◌∷◌, Some, None, refl, sym, ap, ◌∙◌, length, take, drop, map, get_or}
use Rattle.std.specs.Option.{option_or}
use Rattle.std.proofs.lemmas.List.{take-append-drop, drop_more}
use Rattle.lists.proofs.Options.{neither}
use Rattle.md_dirs.specs.State.{State}
use Rattle.md_dirs.specs.Image.{put, state_with, refusal_with}
use Rattle.md_dirs.specs.declared.image.ImageFile.{ImageFile}
use Rattle.md_dirs.specs.declared.calls.DirError.{DirError}
use Rattle.md_dirs.specs.declared.calls.DirError.TheVariants.{NoMemory}

pub state_with-append : (s : State) (xs ys : List ImageFile) → state_with s (xs ++ ys) ≡ state_with (state_with s xs) ys
state_with-append s [] ys = refl
state_with-append s (x ∷ xs) ys = state_with-append ((put x).after s) xs ys

-- where the first files are made, the first refusal is that of the others
pub refusal_with-append : (s : State) (xs ys : List ImageFile) → refusal_with s xs ≡ None → refusal_with s (xs ++ ys) ≡ refusal_with (state_with s xs) ys
refusal_with-append s [] ys none = refl
refusal_with-append s (x ∷ xs) ys none =
    let parts = neither _ _ none in
    ap (λ o. option_or o (refusal_with ((put x).after s) (xs ++ ys))) parts.0 ∙ refusal_with-append ((put x).after s) xs ys parts.1

-- one more file is made
pub one-more : (s t u : State) (xs : List ImageFile) (x : ImageFile) → t ≡ state_with s xs → u ≡ (put x).after t → u ≡ state_with s (xs ++ x ∷ [])
one-more s t u xs x before is = is ∙ ap ((put x).after) before ∙ sym (state_with-append s xs (x ∷ []))

pub one-accepted : (s t : State) (xs : List ImageFile) (x : ImageFile) → t ≡ state_with s xs → refusal_with s xs ≡ None → (put x).refusal t ≡ None →
    refusal_with s (xs ++ x ∷ []) ≡ None
one-accepted s t xs x before none is =
    refusal_with-append s xs (x ∷ []) none ∙ ap (λ o. option_or o None) (ap ((put x).refusal) (sym before) ∙ is)

pub one-refused : (s t : State) (xs : List ImageFile) (x : ImageFile) (rest : List ImageFile) (e : DirError) → t ≡ state_with s xs →
    refusal_with s xs ≡ None → (put x).refusal t ≡ Some e → refusal_with s (xs ++ x ∷ rest) ≡ Some e
one-refused s t xs x rest e before none is =
    refusal_with-append s xs (x ∷ rest) none ∙
    ap (λ o. option_or o (refusal_with ((put x).after (state_with s xs)) rest)) (ap ((put x).refusal) (sym before) ∙ is)

map-same : {X : Type 0} (xs : List X) → map (λ x. x) xs ≡ xs
map-same [] = refl
map-same (x ∷ xs) = ap (λ ys. x ∷ ys) (map-same xs)

-- a list that begins with some items and then has another
pub parted : {X : Type 0} (all xs : List X) (x : X) → map (λ y. y) xs ≡ take (length xs) all →
    (length xs < length all) × (x ≡ get_or all (length xs) x) → all ≡ xs ++ x ∷ drop (length xs + 1) all
parted all xs x first next =
    sym (take-append-drop (length xs) all)
    ∙ ap (λ ys. ys ++ drop (length xs) all) (sym first ∙ map-same xs)
    ∙ ap (λ ys. xs ++ ys) (drop_more all (length xs) x next.0 ∙ ap (λ y. y ∷ drop (length xs + 1) all) (sym next.1))

-- what an image answers where a file is refused
pub refused-at : (s t : State) (xs : List ImageFile) (x : ImageFile) (all : List ImageFile) (e : DirError) → t ≡ state_with s xs → refusal_with s xs ≡ None
    → map (λ y. y) xs ≡ take (length xs) all → (length xs < length all) × (x ≡ get_or all (length xs) x) → (e ≡ NoMemory) ⊎ ((put x).refusal t ≡ Some e)
    → (e ≡ NoMemory) ⊎ (refusal_with s all ≡ Some e)
refused-at s t xs x all e before none first next why = elim why [
  | inl memory ↦ inl memory
  | inr refused ↦ inr (ap (refusal_with s) (parted all xs x first next) ∙ one-refused s t xs x (drop (length xs + 1) all) e before none refused)
]
