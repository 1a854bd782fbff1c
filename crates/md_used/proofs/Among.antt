-- Names that are used, as the keys of a set.
use Rattle.std.proofs.Common.{◌≡◌, ℕ, List, [], ◌∷◌, Bool, true, false, not, ◌||◌, MatchBool, refl, sym, ap, ◌∙◌}
use Rattle.std.specs.List.{list_any}
use Rattle.std.specs.List.Sorted.{IsPermutation}
use Rattle.std.specs.Str.{bytes_eq}
use Rattle.std.proofs.lemmas.Bool.Decides.{same_from_decides}
use Rattle.std.proofs.lemmas.List.Sorted.{list_any-IsPermutation}
use Rattle.std.proofs.lemmas.Slice.Eq.{bytes_eq-Decides}
use Rattle.md_used.specs.Used.{is_among}

pub bytes_eq-sym : (a b : List ℕ) → bytes_eq a b ≡ bytes_eq b a
bytes_eq-sym a b = same_from_decides (bytes_eq a b) (bytes_eq b a) (bytes_eq-Decides a b)
    (λ h. sym ((bytes_eq-Decides b a).0 h), λ e. (bytes_eq-Decides b a).1 (sym e))

pub among : (names : List (List ℕ)) (u : List ℕ) → list_any (λ n. bytes_eq u n) names ≡ is_among u names
among [] u = refl
among (n ∷ names) u = (λ i. bytes_eq-sym u n i || among names u i)

-- a name that is there already
there : (names : List (List ℕ)) (n u : List ℕ) → list_any (λ x. bytes_eq n x) names ≡ true → is_among u names ≡ (bytes_eq n u || is_among u names)
there names n u is = by (bytes_eq n u) refl
  where
    by : (b : Bool) → bytes_eq n u ≡ b → is_among u names ≡ (b || is_among u names)
    by true same = ap (λ x. is_among x names) (sym ((bytes_eq-Decides n u).0 same)) ∙ sym (among names n) ∙ is
    by false other = refl

-- the names after a name is put
pub among-put : (old new : List (List ℕ)) (n : List ℕ) (added : Bool) (u : List ℕ) → added ≡ not (list_any (λ x. bytes_eq n x) old)
    → MatchBool added (IsPermutation (n ∷ old) new) (new ≡ old) → is_among u new ≡ (bytes_eq n u || is_among u old)
among-put old new n true u is puts = sym (list_any-IsPermutation (λ x. bytes_eq x u) (n ∷ old) new puts)
among-put old new n false u is same = ap (is_among u) same ∙ there old n u (by (list_any (λ x. bytes_eq n x) old) is)
  where
    by : (b : Bool) → false ≡ not b → b ≡ true
    by true h = refl
    by false h = cc

-- the names that a permutation of them has
pub among-moved : (old new : List (List ℕ)) → IsPermutation old new → (u : List ℕ) → is_among u new ≡ is_among u old
among-moved old new moved u = sym (list_any-IsPermutation (λ x. bytes_eq x u) old new moved)

-- a name is put that comes off the front of others
pub among-next : (old new rest : List (List ℕ)) (n : List ℕ) (all : Bool) (u : List ℕ) → is_among u new ≡ (bytes_eq n u || is_among u old) →
    (is_among u old || is_among u (n ∷ rest)) ≡ all → (is_among u new || is_among u rest) ≡ all
among-next old new rest n all u put is = ap (λ b. b || is_among u rest) put ∙ by (bytes_eq n u) (is_among u old) (is_among u rest) ∙ is
  where
    by : (a b c : Bool) → ((a || b) || c) ≡ (b || (a || c))
    by true true c = refl
    by true false c = refl
    by false true c = refl
    by false false c = refl
