-- Two pieces that are laid one after the other.
use Rattle.std.proofs.Common.{arith, ℕ, ◌≡◌, ◌+◌, ◌++◌, List, length, take, drop, sym, ap, subst, ◌∙◌}
use Rattle.std.proofs.lemmas.List.{drop-drop, take-append-drop}

-- lists that end alike from a position on do so from each later one on
pub ends_alike_after : {X : Type 0} (n k : ℕ) (xs ys : List X) → drop n xs ≡ drop n ys → drop (n + k) xs ≡ drop (n + k) ys
ends_alike_after n k xs ys same = sym (drop-drop k n xs) ∙ ap (drop k) same ∙ drop-drop k n ys

pub two_laid : (first second old mid new : List ℕ) (at after : ℕ) → at ≡ 0 + length first → take at mid ≡ take 0 old ++ first
    → drop at mid ≡ drop at old → after ≡ at + length second → take after new ≡ take at mid ++ second → drop after new ≡ drop after mid
    → new ≡ (first ++ second) ++ drop (length first + length second) old
two_laid first second old mid new at after is front rest ends fronts rests =
    let whole : length first + length second ≡ after = omega (arith, is, ends) in
    let alike : drop after mid ≡ drop after old =
    subst (λ (n : ℕ). drop n mid ≡ drop n old) (sym ends) (ends_alike_after at (length second) mid old rest) in
    sym (take-append-drop after new)
    ∙ ap (λ (xs : List ℕ). xs ++ drop after new) (fronts ∙ ap (λ (xs : List ℕ). xs ++ second) front)
    ∙ ap (λ (ys : List ℕ). (first ++ second) ++ ys) (rests ∙ alike ∙ ap (λ (n : ℕ). drop n old) (sym whole))
