-- A row whose info changes: the positions of the rows stay in order.
use Rattle.std.proofs.Common.{◌⊎◌, inl, inr, ℕ, ◌≡◌, ◌<◌, List, [], ◌∷◌, Some, None, true, false, cond, T, length, map, find, refl, sym, ap, subst, ◌∙◌, arith, All}
use Rattle.std.proofs.lemmas.List.{length-map, get_or-map}
use Rattle.std.proofs.lemmas.List.Elements.{All-tail, All-from_recursion}
use Rattle.std.proofs.lemmas.Cmp.{tied_itself}
use Rattle.std.specs.List.{IsDistinct, AllByRecursion, list_any}
use Rattle.std.specs.declared.cmp.Ordering.TheVariants.{Less}
use Rattle.std.specs.FinMap as finmap
use Rattle.std.specs.FinMap.{is_sorted, entries_sorted, get-from_entries, get-entries}
use Rattle.std.specs.FinMap.Entries.{below_all}
use Rattle.md_name.specs.Names.{unique_of, is_colon}
use Rattle.md_dirs.specs.Named.{Row, is_alike}
use Rattle.md_dirs.specs.Index.{name_cmp, rows_at, get_name, IsOrderOf}
use Rattle.lists.proofs.Booleans.{first, second, both}
use Rattle.lists.proofs.Orders.{less, is_less}
use Rattle.md_dirs.proofs.NameRows.{same, name_total, get-loose, reordered-loose}
use Rattle.md_dirs.proofs.Ordered.{Rows, listed, listed-itself}
use Rattle.md_dirs.proofs.Uniques.{compared}
use Rattle.md_dirs.proofs.Alike.{equal, tested, moved, moved-names, moved-same, found-alike, found-name, unlike-rest, replaced, replaced-is, renamed-row}

-- a row beside which two names stand alike, unless it has the first
abbrev Beside : List ℕ → List ℕ → Row → Type 0
Beside o k e = same o e.0 ≡ false → (name_cmp e.0 k ≡ name_cmp e.0 o) × (name_cmp k e.0 ≡ name_cmp o e.0)

module _ (o k : List ℕ) (v : ℕ) where
  abbrev change : Row → Row
  change = moved o (k, v)

  pair : (e f : Row) → Beside o k e → Beside o k f → name_cmp e.0 f.0 ≡ Less → name_cmp (change e).0 (change f).0 ≡ Less
  pair e f he hf is = elim (same o e.0) as (λ b. same o e.0 ≡ b → name_cmp (cond b (k, v) e).0 (change f).0 ≡ Less) [
    | true ↦ λ t. elim (same o f.0) as (λ b. same o f.0 ≡ b → name_cmp k (cond b (k, v) f).0 ≡ Less) [
      | true ↦ λ u.
          let tie = tied_itself name_total o in
          let up : name_cmp o o ≡ Less = (λ i. name_cmp (equal o e.0 t i) (equal o f.0 u i)) ∙ is in
          cc
      | false ↦ λ u. (hf u).1 ∙ ap (λ w. name_cmp w f.0) (equal o e.0 t) ∙ is
    ] refl
    | false ↦ λ t. elim (same o f.0) as (λ b. same o f.0 ≡ b → name_cmp e.0 (cond b (k, v) f).0 ≡ Less) [
      | true ↦ λ u. (he t).0 ∙ ap (name_cmp e.0) (equal o f.0 u) ∙ is
      | false ↦ λ u. is
    ] refl
  ] refl

  below : (e : Row) (es : Rows) → Beside o k e → AllByRecursion (Beside o k) es → T (below_all name_cmp e.0 es) →
      T (below_all name_cmp (change e).0 (map change es))
  below e [] he h up = tt
  below e (f ∷ es) he h up =
      both _ _ (is_less _ (pair e f he h.0 (less _ (first _ _ up)))) (below e es he h.1 (second _ _ up))

  sorted : (es : Rows) → AllByRecursion (Beside o k) es → T (is_sorted name_cmp es) → T (is_sorted name_cmp (map change es))
  sorted [] h up = tt
  sorted (e ∷ es) h up = both _ _ (below e es h.0 h.1 (first _ _ up)) (sorted es h.1 (second _ _ up))

-- rows by positions, each changed
at-map : (f : Row → Row) (rows : Rows) (order : List ℕ) → All (λ i. i < length rows) order → rows_at (map f rows) order ≡ map f (rows_at rows order)
at-map f rows [] within = refl
at-map f rows (i ∷ order) within =
    let here = get_or-map f rows i ([], 0) ([], 0) (within 0 0 (omega arith)) in
    let rest = at-map f rows order (All-tail (λ k. k < length rows) i order within) in
    (λ j. here j ∷ rest j)

-- what holds of each row holds of those by positions
all-at : (P : Row → Type 0) (rows : Rows) (order : List ℕ) → All P rows → All (λ i. i < length rows) order → AllByRecursion P (rows_at rows order)
all-at P rows [] all within = tt
all-at P rows (i ∷ order) all within =
    (all i ([], 0) (within 0 0 (omega arith)), all-at P rows order all (All-tail (λ k. k < length rows) i order within))

-- the rows in order have what the rows have
listed-names : (rows : Rows) (q : List ℕ) → get_name (listed rows) q ≡ get_name rows q
listed-names rows q =
    sym (get-loose (listed rows) q) ∙ get-from_entries name_total (listed rows) q
    ∙ sym (get-entries (finmap.from_entries {R = name_cmp} rows) q) ∙ get-loose rows q

-- a row that changes stays at its place, where other names stand beside both names alike
order-moved : (rows : Rows) (order : List ℕ) (o k : List ℕ) (v : ℕ) → IsOrderOf rows order → All (Beside o k) rows →
    ((q : List ℕ) → get_name (map (moved o (k, v)) (listed rows)) q ≡ get_name (map (moved o (k, v)) rows) q) → IsOrderOf (map (moved o (k, v)) rows) order
order-moved rows order o k v is beside alike =
    let new = map (moved o (k, v)) rows in
    let es = map (moved o (k, v)) (listed rows) in
    let as-listed : rows_at new order ≡ es = at-map (moved o (k, v)) rows order is.within ∙ ap (map (moved o (k, v))) is.lists in
    let each = subst (AllByRecursion (Beside o k)) is.lists (all-at (Beside o k) rows order beside is.within) in
    let up = sorted o k v (listed rows) each (entries_sorted {R = name_cmp} (finmap.from_entries rows)) in
    record {
      within = λ i d h. let small = is.within i d h in let long = length-map rows (moved o (k, v)) in omega (arith, small, long);
      lists = as-listed ∙ listed-itself es up ∙ ap finmap.entries (reordered-loose new es alike);
    }

order-stays : (rows : Rows) (order : List ℕ) (o k : List ℕ) (v w : ℕ) → IsOrderOf rows order → All (Beside o k) rows →
    get_name rows o ≡ Some w → get_name rows k ≡ None → IsOrderOf (map (moved o (k, v)) rows) order
order-stays rows order o k v w is beside some none = order-moved rows order o k v is beside (λ q.
    moved-names o k v (listed rows) w (listed-names rows o ∙ some) (listed-names rows k ∙ none) q
    ∙ (λ j. cond (same o q) None (cond (same k q) (Some v) (listed-names rows q j)))
    ∙ sym (moved-names o k v rows w some none q))

-- a row gets another number
pub renumbered : (rows new : Rows) (order : List ℕ) (x row : Row) → IsDistinct is_alike rows → find (is_alike x) rows ≡ Some row → same row.0 x.0 ≡ true
    → new ≡ replaced rows x → (order ≡ []) ⊎ IsOrderOf rows order → (order ≡ []) ⊎ IsOrderOf new order
renumbered rows new order x row d found key made (inl none) = inl none
renumbered rows new order x row d found key made (inr is) =
    let some = found-name x rows row found key in
    let changed = made ∙ replaced-is x rows row d found ∙ ap (λ o. map (moved o x) rows) (equal row.0 x.0 key) in
    inr (subst (λ (es : Rows). IsOrderOf es order) (sym changed) (order-moved rows order x.0 x.0 x.1 is (λ i e h differs. (refl, refl)) (λ q.
    moved-same x.0 x.1 (listed rows) row.1 (listed-names rows x.0 ∙ some) q
    ∙ (λ j. cond (same x.0 q) (Some x.1) (listed-names rows q j))
    ∙ sym (moved-same x.0 x.1 rows row.1 some q))))

-- where the names have one unique part, and a colon each
beside-info : (rows : Rows) (row : Row) (k : List ℕ) (v : ℕ) → IsDistinct is_alike rows → find (is_alike (k, v)) rows ≡ Some row →
    list_any is_colon row.0 ≡ true → list_any is_colon k ≡ true → All (Beside row.0 k) rows
beside-info rows row k v d found has has' = All-from_recursion (Beside row.0 k) rows (go rows (unlike-rest (k, v) rows row d found))
  where
    alike : unique_of k ≡ unique_of row.0
    alike = equal (unique_of k) (unique_of row.0) (found-alike (k, v) rows row found)

    go : (es : Rows) → AllByRecursion (λ (e : Row). same row.0 e.0 ≡ false → is_alike (k, v) e ≡ false) es → AllByRecursion (Beside row.0 k) es
    go [] h = tt
    go (e ∷ es) h = (
      (λ differs. compared e.0 k row.0 alike has' has
          (λ one. let like : is_alike (k, v) e ≡ true = tested (unique_of k) (unique_of e.0) (sym one) in
          let unlike : is_alike (k, v) e ≡ false = h.0 differs in cc)),
      go es h.1,
    )

pub info-changes : (rows new : Rows) (order : List ℕ) (o k : List ℕ) (v w : ℕ) → IsDistinct is_alike rows → same (unique_of o) (unique_of k) ≡ true
    → get_name rows o ≡ Some w → get_name rows k ≡ None → new ≡ replaced rows (k, v) → list_any is_colon o ≡ true → list_any is_colon k ≡ true
    → (order ≡ []) ⊎ IsOrderOf rows order → (order ≡ []) ⊎ IsOrderOf new order
info-changes rows new order o k v w d one some none made has has' (inl empty) = inl empty
info-changes rows new order o k v w d one some none made has has' (inr is) =
    let r = renamed-row rows new o k v w d one some none made in
    let beside = beside-info rows r.0 k v d r.1 (ap (list_any is_colon) r.2 ∙ has) has' in
    inr (subst (λ (es : Rows). IsOrderOf es order) (sym r.3) (order-stays rows order o k v w is (subst (λ (n : List ℕ). All (Beside n k) rows) r.2 beside) some none))
