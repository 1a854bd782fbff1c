-- The order of a directory's table, where it shows all names.
use Rattle.std.proofs.Common.{ℕ, ◌≡◌, ◌<◌, ◌≤◌, ◌++◌, ◌⊎◌, inl, inr, true, false, nat_le, List, [], All, length, map, drop, get_or, refl, sym, ap, subst, ◌∙◌, arith, Bor}
use Rattle.std.proofs.Math.ListN.{drop_of_length-le}
use Rattle.std.proofs.lemmas.Bool.Decides.{nat_tests}
use Rattle.std.proofs.lemmas.List.{nil_from_length, append-nil, get_or-map, length-map, drop-map}
use Rattle.std.proofs.lemmas.List.Elements.{All-drop}
use Rattle.std.specs.FinMap as finmap
use Rattle.md_dirs.specs.Index.{name_cmp, rows_at, IsOrderOf, NameMap}
use Rattle.md_dirs.specs.Least.{lent_row}
use Rattle.md_dirs.proofs.NameRows.{Row}
use Rattle.md_dirs.proofs.Ordered.{listed-itself}

no-order : IsOrderOf [] []
no-order = record { within = λ k d h. absurd (omega (arith, h)); lists = listed-itself [] tt }

-- all behind a position, which is lowered to the end of a list
pub same-rest : (xs : List ℕ) (from m : ℕ) → (from ≤ length xs → m ≡ from) → (length xs ≤ from → m ≡ length xs) → drop m xs ≡ drop from xs
same-rest xs from m fits past = elim (nat_le from (length xs)) as (λ b. nat_le from (length xs) ≡ b → drop m xs ≡ drop from xs) [
  | true ↦ λ t. ap (λ k. drop k xs) (fits (let le : from ≤ length xs = grind (arith, nat_tests) in le))
  | false ↦ λ t.
      let beyond : length xs ≤ from = grind (arith, nat_tests) in
      let end = past beyond in
      drop_of_length-le xs (omega (arith, end)) ∙ sym (drop_of_length-le xs beyond)
] refl

-- an order that is as long as the table is made
pub whole-order : (rows : List Row) (order : List ℕ) → (order ≡ []) ⊎ IsOrderOf rows order → length order ≡ length rows → IsOrderOf rows order
whole-order rows order (inl none) long =
    let empty : rows ≡ [] = nil_from_length rows (sym long ∙ ap length none) in
    subst (λ es. IsOrderOf es order) (sym empty) (subst (IsOrderOf []) (sym none) no-order)
whole-order rows order (inr is) long = is

-- the table has all names, where none stands beside it
pub table-is-all : (rows others : List Row) → others ≡ [] → rows ++ others ≡ rows
table-is-all rows others none = ap (λ es. rows ++ es) none ∙ append-nil rows

pub arranged-lists : (rows others : List Row) (order : List ℕ) (names : NameMap) → others ≡ [] → IsOrderOf rows order →
    finmap.from_entries (rows ++ others) ≡ names → rows_at rows order ≡ finmap.entries names
arranged-lists rows others order names none is view =
    is.lists ∙ ap (λ es. finmap.entries {R = name_cmp} (finmap.from_entries es)) (sym (table-is-all rows others none)) ∙ ap finmap.entries view

-- rows that were lent, by positions of an order from one on
module _ (lent : List (Bor (List ℕ) × ℕ)) (order ps : List ℕ) (from : ℕ) (order-is : IsOrderOf (map lent_row lent) order) (is : ps ≡ drop from order) where
  pub rest-row : (i : ℕ) (d : Bor (List ℕ) × ℕ) → i < length ps →
      lent_row (get_or lent (get_or ps i 0) d) ≡ get_or (map lent_row lent) (get_or ps i 0) ([], 0)
  rest-row i d h =
      let all : All (λ k. k < length (map lent_row lent)) ps =
      subst (All (λ k. k < length (map lent_row lent))) (sym is) (All-drop (λ k. k < length (map lent_row lent)) from order order-is.within) in
      let within = all i 0 h in
      let long = length-map lent lent_row in
      sym (get_or-map lent_row lent (get_or ps i 0) d ([], 0) (omega (arith, within, long)))

  pub rest-listed : rows_at (map lent_row lent) ps ≡ drop from (finmap.entries {R = name_cmp} (finmap.from_entries (map lent_row lent)))
  rest-listed =
      ap (rows_at (map lent_row lent)) is ∙ sym (drop-map (λ i. get_or (map lent_row lent) i ([], 0)) from order) ∙ ap (drop from) order-is.lists
