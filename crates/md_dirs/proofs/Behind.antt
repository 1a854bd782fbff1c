-- A name that is above that of the last row in order goes behind all rows.
use Rattle.std.proofs.Common.{◌⊎◌, inl, inr, ℕ, ◌≡◌, ◌+◌, ◌-◌, ◌<◌, ◌++◌, List, [], ◌∷◌, Some, None, length, refl, sym, ap, subst, ◌∙◌, arith, get_or, slice_get}
use Rattle.std.proofs.lemmas.List.{get_or_default}
use Rattle.std.proofs.lemmas.List.Edits.{insert_end}
use Rattle.std.specs.declared.cmp.Ordering.TheVariants.{Less}
use Rattle.std.specs.FinMap as finmap
use Rattle.std.specs.FinMap.{entries_sorted}
use Rattle.md_dirs.specs.Named.{Row, GoesLast}
use Rattle.md_dirs.specs.Index.{name_cmp, IsOrderOf}
use Rattle.md_dirs.specs.Plain.{IsGap}
use Rattle.md_dirs.proofs.Sorted.{gap_end, all_below-to}
use Rattle.lists.proofs.Booleans.{is_true}
use Rattle.lists.proofs.Pushed.{past-end}
use Rattle.std.proofs.lemmas.List.{nil_from_length}
use Rattle.md_dirs.proofs.NameRows.{name_total, name_exact, get-within}
use Rattle.md_dirs.proofs.Ordered.{Rows, listed, listed-itself, long, at-place, come}

-- an order of no position is that of no row
pub no-order : IsOrderOf [] []
no-order = record { within = λ k d h. absurd (omega arith); lists = listed-itself [] tt }

-- an order of as many positions as there are rows is made
pub made : (rows : Rows) (order : List ℕ) → (order ≡ []) ⊎ IsOrderOf rows order → length order ≡ length rows → IsOrderOf rows order
made rows order h count = elim h [
  | inl empty ↦
      let none : rows ≡ [] = nil_from_length rows (sym count ∙ ap length empty) in
      subst (λ (es : Rows). IsOrderOf es order) (sym none) (subst (IsOrderOf []) (sym empty) no-order)
  | inr is ↦ is
]

pub none-behind : (rows : Rows) (order : List ℕ) (name : List ℕ) → IsOrderOf rows order → slice_get order (length order - 1) ≡ None → GoesLast rows order name
none-behind rows order name is end =
    let some = past-end order (length order - 1) end in
    let empty : length order ≡ 0 = omega (arith, some) in
    let nil : listed rows ≡ [] = nil_from_length (listed rows) (sym (long rows order is) ∙ empty) in
    record {
      ordered = is;
      gap = subst (λ (es : Rows). IsGap name_cmp es name (length order)) (sym nil)
          (subst (λ (n : ℕ). IsGap name_cmp [] name n) (sym empty) (gap_end name_total name_exact [] name 0 refl (omega arith)));
    }

pub last-behind : (rows : Rows) (order : List ℕ) (name : List ℕ) (last : ℕ) (row : Row) → IsOrderOf rows order → slice_get order (length order - 1) ≡ Some last
    → slice_get rows last ≡ Some row → name_cmp row.0 name ≡ Less → GoesLast rows order name
last-behind rows order name last row is end at up =
    let i = length order - 1 in
    let es = listed rows in
    let l = long rows order is in
    let there = get-within order i last end in
    let row-at = get-within rows last row at in
    let within : i < length es = omega (arith, there.0, l) in
    let position : get_or order i 0 ≡ last = get_or_default order i 0 last there.0 ∙ there.1 in
    let read : get_or rows last ([], 0) ≡ row = get_or_default rows last ([], 0) row row-at.0 ∙ row-at.1 in
    let here : get_or es i ([], 0) ≡ row = at-place rows order is i there.0 ∙ ap (λ k. get_or rows k ([], 0)) position ∙ read in
    let e = get_or es i ([], 0) in
    let below = all_below-to name_total name_exact es name i e (is_true _ (entries_sorted {R = name_cmp} (finmap.from_entries rows))) within
    (get_or_default es i ([], 0) e within) (ap (λ (r : Row). name_cmp r.0 name) here ∙ up) in
    record {
      ordered = is;
      gap = subst (IsGap name_cmp es name) (sym l) (gap_end name_total name_exact es name (i + 1) below (omega (arith, there.0, l)));
    }

-- it comes behind them
pub comes-last : (rows : Rows) (order : List ℕ) (x : Row) → GoesLast rows order x.0 → IsOrderOf (rows ++ x ∷ []) (order ++ length rows ∷ [])
comes-last rows order x goes =
    subst (IsOrderOf (rows ++ x ∷ [])) (insert_end order (length rows)) (come rows order goes.ordered x.0 x.1 (length order) goes.gap)
