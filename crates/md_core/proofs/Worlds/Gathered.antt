-- The names that entries use up, one after another, and those of rows in tmp.
use Rattle.std.proofs.Common.{ℕ, zero, suc, ◌≡◌, ◌+◌, ◌∙◌, List, [], ◌∷◌, Some, Bool, true, false, ◌||◌, take, slice_get, refl, sym, ap}
use Rattle.std.specs.List.Sorted.{IsPermutation}
use Rattle.std.proofs.lemmas.List.Sorted.{list_any-IsPermutation}
use Rattle.md_core.proofs.Values.{State, Place, Tmp, Row, path_of, rows_of, is_among, bytes_eq, list_any, AreOf, StillUsed, entries_before, holds, uses}
use Rattle.md_core.proofs.Lists.Places.{take-one_more}
use Rattle.md_core.proofs.Worlds.Holding.{rows-there, tmp-holds}
use Rattle.md_core.proofs.Worlds.Loading.Lying.{Follows, IsUnordered}
use Rattle.md_core.proofs.Worlds.Loading.Order.{before-none}
use Rattle.md_core.proofs.Worlds.Submitted.{any-push, or_true}

turned : (a b : Bool) → (a || b) ≡ (b || a)
turned true true = refl
turned true false = refl
turned false true = refl
turned false false = refl

pub gathered-none : (s : State) (names : List (List ℕ)) → names ≡ [] → AreOf (entries_before s 0 0) names
gathered-none s names none u = ap (is_among u) none ∙ ap (list_any (λ e. uses u e.0)) (sym (before-none s))

pub gathered-more : (s : State) (folder : ℕ) (place : Place) (r : Row) (old new : List (List ℕ)) →
    ((u : List ℕ) → is_among u new ≡ (uses u (path_of 0 place r.name) || is_among u old)) →
    Follows s folder place r (λ es. AreOf es old) (λ es. AreOf es new)
gathered-more s folder place r old new more es e path stamp are u =
    more u
    ∙ (λ i. uses u (sym path i) || are u i)
    ∙ turned (uses u e.0) (list_any (λ x. uses u x.0) es)
    ∙ sym (any-push (λ x. uses u x.0) es e)

pub gathered-moved : (names : List (List ℕ)) → IsUnordered (λ es. AreOf es names)
gathered-moved names es fs moved are u = are u ∙ sym (list_any-IsPermutation (λ e. uses u e.0) es fs moved)

-- ---- the names of rows in tmp, one after another

pub row-more : (rows : List Row) (at : ℕ) (row : Row) → slice_get rows at ≡ Some row → (u : List ℕ) (rest : Bool) →
    (bytes_eq row.name u || (list_any (λ r. bytes_eq r.name u) (take at rows) || rest)) ≡ (list_any (λ r. bytes_eq r.name u) (take (at + 1) rows) || rest)
row-more rows at row is u rest =
    first (bytes_eq row.name u) (list_any (λ r. bytes_eq r.name u) (take at rows)) rest
    ∙ ap (λ b. b || rest)
    (sym (any-push (λ r. bytes_eq r.name u) (take at rows) row) ∙ ap (list_any (λ r. bytes_eq r.name u)) (sym (take-one_more rows at row is)))
  where
    first : (a b c : Bool) → (a || (b || c)) ≡ ((b || a) || c)
    first true true c = refl
    first true false c = refl
    first false true c = refl
    first false false c = refl

any-take : (p : Row → Bool) (rows : List Row) (at : ℕ) → list_any p (take at rows) ≡ true → list_any p rows ≡ true
any-take p [] zero is = is
any-take p [] (suc at) is = is
any-take p (r ∷ rows) zero is = cc
any-take p (r ∷ rows) (suc at) is = by (p r) (any-take p rows at) is
  where
    by : (b : Bool) → (list_any p (take at rows) ≡ true → list_any p rows ≡ true) → (b || list_any p (take at rows)) ≡ true → (b || list_any p rows) ≡ true
    by true rest is = refl
    by false rest is = rest is

-- after some of them, the same names are used up
pub still-used : (s : State) (folder : ℕ) (rows : List Row) (at : ℕ) (old new : List (List ℕ)) → IsPermutation (rows_of s folder Tmp) rows →
    ((u : List ℕ) → is_among u new ≡ (list_any (λ r. bytes_eq r.name u) (take at rows) || is_among u old)) → StillUsed s old new
still-used s folder rows at old new lies is = record {
  kept = λ u among. is u ∙ ap (λ b. list_any (λ r. bytes_eq r.name u) (take at rows) || b) among
      ∙ or_true (list_any (λ r. bytes_eq r.name u) (take at rows));
  same = λ u. ap (λ b. b || holds s u) (is u) ∙ by u (list_any (λ r. bytes_eq r.name u) (take at rows)) refl;
}
  where
    by : (u : List ℕ) (b : Bool) → list_any (λ r. bytes_eq r.name u) (take at rows) ≡ b →
        ((b || is_among u old) || holds s u) ≡ (is_among u old || holds s u)
    by u true some =
        let there = sym (rows-there s folder u rows lies) ∙ any-take (λ r. bytes_eq r.name u) rows at some in
        let held : holds s u ≡ true = tmp-holds s folder u there in
        sym (ap (λ b. is_among u old || b) held ∙ or_true (is_among u old))
    by u false none = refl
