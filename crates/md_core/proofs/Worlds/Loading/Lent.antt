-- Rows that a directory lends, one after another.
use Rattle.std.proofs.Common.{ℕ, zero, suc, ◌≡◌, ◌+◌, ◌<◌, ◌≤◌, List, [], ◌∷◌, Some, length, take, drop, get_or, slice_get, refl, sym, ap, ◌∙◌, arith}
use Rattle.std.proofs.lemmas.List.{length-take, length-drop}
use Rattle.md_dirs.specs.Lent.{AreNext}
use Rattle.md_dirs.specs.declared.rows.Row.{Row}

-- what is read from a position on
get-drop : {X : Type 0} (xs : List X) (from i : ℕ) → slice_get (drop from xs) i ≡ slice_get xs (from + i)
get-drop xs zero i = let e : i ≡ zero + i = omega arith in ap (slice_get xs) e
get-drop [] (suc from) i = refl
get-drop (x ∷ xs) (suc from) i = let e : suc (from + i) ≡ suc from + i = omega arith in get-drop xs from i ∙ ap (slice_get (x ∷ xs)) e

get-take : {X : Type 0} (xs : List X) (n i : ℕ) (r : X) → slice_get (take n xs) i ≡ Some r → slice_get xs i ≡ Some r
get-take xs zero i r is = cc
get-take [] (suc n) i r is = cc
get-take (x ∷ xs) (suc n) zero r is = is
get-take (x ∷ xs) (suc n) (suc i) r is = get-take xs n i r is

got : {X : Type 0} (xs : List X) (i : ℕ) (x : X) → i < length xs → x ≡ get_or xs i x → slice_get xs i ≡ Some x
got [] i x h is = absurd (omega (arith, h))
got (y ∷ ys) zero x h is = ap Some (sym is)
got (y ∷ ys) (suc i) x h is = got ys i x (omega (arith, h)) is

-- a row that was lent is that of its position
pub lent-at : (all : List Row) (from : ℕ) (rows : List Row) → AreNext all from rows → (i : ℕ) (r : Row) → i < length rows → r ≡ get_or rows i r
    → slice_get all (from + i) ≡ Some r
lent-at all from rows next i r within is =
    sym (get-drop all from i)
    ∙ get-take (drop from all) (length rows) i r (ap (λ xs. slice_get xs i) (sym next.each) ∙ got rows i r within is)

-- where none come next, all were seen
pub ended : (all rows : List Row) (at : ℕ) → (at < length all → 0 < length rows) → length rows ≡ 0 → length all ≤ at
ended [] rows at some none = omega arith
ended (row ∷ all) rows zero some none = let here = some (omega arith) in absurd (omega (arith, here, none))
ended (row ∷ all) rows (suc at) some none = let rest = ended all rows at (λ h. some (omega (arith, h))) none in omega (arith, rest)

-- those that come next are there
pub at-most : (all rows : List Row) (at : ℕ) → rows ≡ take (length rows) (drop at all) → 0 < length rows → at + length rows ≤ length all
at-most all rows at is some =
    let cut = ap length is ∙ length-take (length rows) (drop at all) in
    let rest = length-drop at all in
    omega (arith, some, cut, rest)
