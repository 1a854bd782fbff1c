-- Rows that are lent from a block: they are the next ones of their directory.
use Rattle.std.proofs.Common.{ℕ, zero, suc, ◌≡◌, ◌<◌, ◌≤◌, List, [], ◌∷◌, Result, Ok, Err, IfOk, Option, Some, None, length, map, take, drop, ◌+◌, ◌-◌, ◌++◌, get_or, slice_get, sym, ap, subst, ◌∙◌, arith}
use Rattle.std.proofs.Math.Seq.{take-add}
use Rattle.std.proofs.lemmas.List.{length-map, take-map, drop-map, drop_more, length-append, length-take, length-drop, take_all}
use Rattle.std.proofs.lemmas.Option.{slice_get_within, get_or_from_slice_get}
use Rattle.md_dirs.specs.Lent.{AreNext}
use Rattle.md_dirs.specs.Files.{name_row}
use Rattle.md_dirs.specs.Index.{rows_at}
use Rattle.md_dirs.specs.declared.paths.File.{File}
use Rattle.md_dirs.specs.declared.rows.Row.{Row}

-- of a value that is there, one thing follows from another
pub if-ok : {T E : Type 0} {P Q : T → Type 0} (r : Result T E) → ((t : T) → P t → Q t) → IfOk r P → IfOk r Q
if-ok (Ok t) follows is = follows t is
if-ok (Err e) follows is = tt

-- nothing is lent past the last row
pub none-next : (all shown : List Row) (from : ℕ) → length all ≤ from → shown ≡ [] → AreNext all from shown
none-next all shown from past none = record {
  each = none ∙ ap (λ (rows : List Row). take (length rows) (drop from all)) (sym none);
  some = λ within. absurd (omega (arith, within, past));
}

-- all that are left are lent
pub rest-next : (all shown : List Row) (from : ℕ) → shown ≡ drop from all → AreNext all from shown
rest-next all shown from is =
    let long : length shown ≡ length all - from = ap length is ∙ length-drop from all in
    record {
      each = is ∙ sym (take_all (length shown) (drop from all) (omega (arith, long, length-drop from all)));
      some = λ within. omega (arith, within, long);
    }

-- where there is no row, all are before
pub past : (all : List Row) (from : ℕ) → slice_get all from ≡ None → length all ≤ from
past [] from none = omega arith
past (row ∷ all) zero none = cc
past (row ∷ all) (suc from) none = let rest = past all from none in omega (arith, rest)

-- one row is lent
pub one-next : (all shown : List Row) (from : ℕ) (row : Row) → slice_get all from ≡ Some row → shown ≡ row ∷ [] → AreNext all from shown
one-next all shown from row is one =
    let here = drop_more all from row (slice_get_within all from row is) in
    let this : row ≡ get_or all from row = sym (get_or_from_slice_get all from row row is) in
    record {
      each = one ∙ ap (λ r. r ∷ []) this ∙ ap (take 1) (sym here) ∙ ap (λ (rows : List Row). take (length rows) (drop from all)) (sym one);
      some = λ _. subst (λ (rows : List Row). 0 < length rows) (sym one) (omega arith);
    }

-- rows that are gathered, until none come next
module _ (all shown rows : List Row) (next : AreNext all (length shown) rows) where
  pub gathered : (more : List Row) → shown ≡ take (length shown) all → more ≡ shown ++ rows → more ≡ take (length more) all
  gathered more before made =
      let long : length more ≡ length shown + length rows = ap length made ∙ length-append shown rows in
      made ∙ (λ i. before i ++ next.each i) ∙ sym (take-add (length shown) (length rows) all) ∙ ap (λ n. take n all) (sym long)

  pub fewer-left : (more : List Row) → 0 < length rows → more ≡ shown ++ rows → length all - length more < length all - length shown
  fewer-left more some made =
      let long : length more ≡ length shown + length rows = ap length made ∙ length-append shown rows in
      let cut = ap length next.each ∙ length-take (length rows) (drop (length shown) all) in
      let rest = length-drop (length shown) all in
      omega (arith, some, long, cut, rest)

  pub all-gathered : shown ≡ take (length shown) all → length rows ≡ 0 → shown ≡ all
  all-gathered before none = before ∙ take_all (length shown) all (ended all (length shown) next.some)
    where
      ended : (es : List Row) (at : ℕ) → (at < length es → 0 < length rows) → length es ≤ at
      ended [] at some = omega arith
      ended (e ∷ es) zero some = let here = some (omega arith) in absurd (omega (arith, here, none))
      ended (e ∷ es) (suc at) some = let rest = ended es at (λ h. some (omega (arith, h))) in omega (arith, rest)

module _ (es : List (List ℕ × ℕ)) (order ps : List ℕ) (from : ℕ) (is : ps ≡ take (length ps) (drop from order)) where
  -- the rows at positions that stand side by side
  pub rows-part : rows_at es ps ≡ take (length ps) (drop from (rows_at es order))
  rows-part =
      ap (rows_at es) is ∙ sym (take-map (λ i. get_or es i ([], 0)) (length ps) (drop from order)) ∙
      ap (take (length ps)) (sym (drop-map (λ i. get_or es i ([], 0)) from order))

  -- what they show is what the directory shows there
  pub next-rows : (files : List (Option File)) (shown : List Row) → (from < length order → 0 < length ps) → shown ≡ map (name_row files) (rows_at es ps) →
      AreNext (map (name_row files) (rows_at es order)) from shown
  next-rows files shown some made =
      let long : length shown ≡ length ps = ap length made ∙ length-map (rows_at es ps) (name_row files) ∙ length-map ps (λ i. get_or es i ([], 0)) in
      record {
        each = made ∙ ap (map (name_row files)) rows-part ∙ sym (take-map (name_row files) (length ps) (drop from (rows_at es order)))
            ∙ ap (take (length ps)) (sym (drop-map (name_row files) from (rows_at es order)))
            ∙ ap (λ n. take n (drop from (map (name_row files) (rows_at es order)))) (sym long);
        some = λ within.
            let all : length (map (name_row files) (rows_at es order)) ≡ length order =
            length-map (rows_at es order) (name_row files) ∙ length-map order (λ i. get_or es i ([], 0)) in
            subst (λ n. 0 < n) (sym long) (some (omega (arith, within, all)));
      }
