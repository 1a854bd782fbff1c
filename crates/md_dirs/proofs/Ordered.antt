-- The positions of rows in order of their names, as rows come and go.
use Rattle.std.proofs.Common.{ℕ, zero, suc, ◌≡◌, ◌≢◌, ◌<◌, ◌≤◌, ◌++◌, List, [], ◌∷◌, Some, None, true, false, T, length, nat_eq, nat_lt, refl, sym, ap, subst, ◌∙◌, arith, get_or, slice_get, insert, take, drop, All}
use Rattle.std.proofs.lemmas.Bool.Decides.{nat_tests}
use Rattle.std.proofs.lemmas.List.{length-map, get_or-map, get_or_append_left, get_or_push, length_push, get_or_default, take-map, drop-map, map-append}
use Rattle.std.proofs.lemmas.List.Elements.{All-append, All-cons, All-weaker, All-take, All-drop, All-tail}
use Rattle.std.proofs.lemmas.Cmp.{tied_itself}
use Rattle.std.specs.declared.cmp.Ordering.TheVariants.{Less}
use Rattle.std.specs.FinMap as finmap
use Rattle.std.specs.FinMap.{find, is_sorted, same_map, get-from_entries, get-from_sorted, get-entries, entries-from_sorted, entries-insert, entries_sorted, from_entries_push}
use Rattle.md_dirs.specs.Index.{name_cmp, rows_at, IsOrderOf}
use Rattle.md_dirs.specs.Plain.{IsGap}
use Rattle.lists.proofs.Booleans.{first, second}
use Rattle.md_dirs.proofs.Renamed.{below-at}
use Rattle.md_dirs.proofs.NameRows.{Row, name_total, name_exact, get-within}

abbrev pub Rows : Type 0
Rows = List (List ℕ × ℕ)

-- the rows that their names' map lists
abbrev pub listed : Rows → Rows
listed rows = finmap.entries {R = name_cmp} (finmap.from_entries rows)

pub by_number : {C : Type 0} (j k : ℕ) → (j ≡ k → C) → (j ≢ k → C) → C
by_number {C = C} j k is not_is = elim (nat_eq j k) as (λ b. nat_eq j k ≡ b → C) [
  | true ↦ λ t. is (let e : j ≡ k = grind (arith, nat_tests) in e)
  | false ↦ λ t. not_is (let e : j ≢ k = grind (arith, nat_tests) in e)
] refl

-- a later row in order has a later name
pub rises : (es : Rows) (j k : ℕ) → T (is_sorted name_cmp es) → j < k → k < length es → name_cmp (get_or es j ([], 0)).0 (get_or es k ([], 0)).0 ≡ Less
rises [] j k h lt within = absurd (omega arith)
rises (e ∷ es) j zero h lt within = absurd (omega arith)
rises (e ∷ es) zero (suc k) h lt within = below-at e.0 es k ([], 0) (omega arith) (first _ _ h)
rises (e ∷ es) (suc j) (suc k) h lt within = rises es j k (second _ _ h) (omega arith) (omega arith)

-- rows by positions
at-order : (rows : Rows) (order : List ℕ) (k : ℕ) → k < length order → get_or (rows_at rows order) k ([], 0) ≡ get_or rows (get_or order k 0) ([], 0)
at-order rows order k h = get_or-map (λ i. get_or rows i ([], 0)) order k 0 ([], 0) h

length-at : (rows : Rows) (order : List ℕ) → length (rows_at rows order) ≡ length order
length-at rows order = length-map order (λ i. get_or rows i ([], 0))

-- rows that come behind change none
at-more : (rows more : Rows) (order : List ℕ) → All (λ i. i < length rows) order → rows_at (rows ++ more) order ≡ rows_at rows order
at-more rows more [] within = refl
at-more rows more (i ∷ order) within =
    let here = get_or_append_left rows more ([], 0) i (within 0 0 (omega arith)) in
    let rest = at-more rows more order (All-tail (λ k. k < length rows) i order within) in
    (λ j. here j ∷ rest j)

module _ (rows : Rows) (order : List ℕ) (is : IsOrderOf rows order) where
  pub long : length order ≡ length (listed rows)
  long = sym (length-at rows order) ∙ ap length is.lists

  pub at-place : (k : ℕ) → k < length order → get_or (listed rows) k ([], 0) ≡ get_or rows (get_or order k 0) ([], 0)
  at-place k h = ap (λ xs. get_or xs k ([], 0)) (sym is.lists) ∙ at-order rows order k h

  -- a name that is not there comes to its place
  pub come : (name : List ℕ) (file at : ℕ) → IsGap name_cmp (listed rows) name at → IsOrderOf (rows ++ (name, file) ∷ []) (insert order at (length rows))
  come name file at gap =
      let more : Rows = rows ++ (name, file) ∷ [] in
      let grown = length_push rows (name, file) in
      let absent : find name_cmp name rows ≡ None = sym (get-from_entries name_total rows name) ∙ get-entries (finmap.from_entries rows) name ∙ gap.absent in
      let bound = All-weaker (λ i. i < length rows) (λ i. i < length more) (λ i h. omega arith) order is.within in
      record {
        within = All-append (λ i. i < length more) (take at order) (length rows ∷ drop at order) (All-take (λ i. i < length more) at order bound)
            (All-cons (λ i. i < length more) (length rows) (drop at order) (omega arith) (All-drop (λ i. i < length more) at order bound));
        lists =
            map-append (λ i. get_or more i ([], 0)) (take at order) (length rows ∷ drop at order)
            ∙ (λ j. at-more rows ((name, file) ∷ []) (take at order) (All-take (λ i. i < length rows) at order is.within) j
            ++ get_or_push rows (name, file) ([], 0) (length rows) refl j
            ∷ at-more rows ((name, file) ∷ []) (drop at order) (All-drop (λ i. i < length rows) at order is.within) j)
            ∙ (λ j. sym (take-map row at order) j ++ (name, file) ∷ sym (drop-map row at order) j)
            ∙ ap (λ es. insert es at (name, file)) is.lists
            ∙ sym (gap.placed file)
            ∙ sym (entries-insert name_total (finmap.from_entries rows) name file)
            ∙ ap finmap.entries (sym (from_entries_push name_total name_exact rows name file absent));
      }
    where
      row : ℕ → List ℕ × ℕ
      row i = get_or rows i ([], 0)

  earlier : (j k : ℕ) → j < k → k < length order → get_or order j 0 ≢ get_or order k 0
  earlier j k lt within alike =
      let l = long in
      let up = rises (listed rows) j k (entries_sorted {R = name_cmp} (finmap.from_entries rows)) lt (omega arith) in
      let one : get_or (listed rows) j ([], 0) ≡ get_or (listed rows) k ([], 0) =
      at-place j (omega arith) ∙ ap (λ i. get_or rows i ([], 0)) alike ∙ sym (at-place k within) in
      let tie = tied_itself name_total (get_or (listed rows) k ([], 0)).0 in
      let up' : name_cmp (get_or (listed rows) k ([], 0)).0 (get_or (listed rows) k ([], 0)).0 ≡ Less =
      subst (λ (e : List ℕ × ℕ). name_cmp e.0 (get_or (listed rows) k ([], 0)).0 ≡ Less) one up in
      cc

  -- each position stands at one place
  apart : (j k : ℕ) → j < length order → k < length order → j ≢ k → get_or order j 0 ≢ get_or order k 0
  apart j k hj hk differ = elim (nat_lt j k) as (λ b. nat_lt j k ≡ b → get_or order j 0 ≢ get_or order k 0) [
    | true ↦ λ t. earlier j k (let lt : j < k = grind (arith, nat_tests) in lt) hk
    | false ↦ λ t alike. earlier k j (let le : k ≤ j = grind (arith, nat_tests) in let lt : k < j = omega (arith, le, differ) in lt) hj (sym alike)
  ] refl

-- rows that stand in order themselves
pub listed-itself : (rows : Rows) → T (is_sorted name_cmp rows) → rows ≡ listed rows
listed-itself rows sorted =
    sym (entries-from_sorted name_cmp rows sorted)
    ∙ ap finmap.entries (same_map name_total name_exact _ _ (λ q. get-from_sorted name_cmp rows q sorted ∙ sym (get-from_entries name_total rows q)))

-- a row that is read, by its name
pub read : (es : List Row) (i : ℕ) (r : Row) → slice_get es i ≡ Some r → get_or es i ([], 0) ≡ r
read es i r is =
    let at = get-within es i r is in
    get_or_default es i ([], 0) r at.0 ∙ at.1
