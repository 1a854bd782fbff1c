-- The rows of one directory, side by side among all rows in order.
use Rattle.std.proofs.Common.{ℕ, zero, suc, ◌≡◌, ◌≢◌, ◌+◌, ◌-◌, ◌<◌, ◌≤◌, List, [], ◌∷◌, Bool, true, false, cond, T, nat_lt, leb, ltb, ltb-true, ltb-false, leb-true, leb-false, refl, sym, ap, subst, ◌∙◌, arith, length, map, filter, take, drop, get_or, slice_get, Option}
use Rattle.std.proofs.lemmas.Bool.Decides.{nat_tests}
use Rattle.std.specs.Option.{option_map}
use Rattle.std.specs.List.Sorted.{IsNonDecreasingBy, IsPartitionPoint}
use Rattle.std.specs.declared.cmp.Ordering.TheVariants.{Less, Greater}
use Rattle.std.specs.Ordering.{is_lt, ordering_reverse}
use Rattle.std.specs.FinMap.{is_sorted, from_sorted, entries-from_sorted}
use Rattle.std.specs.FinMap.Entries.{below_all}
use Rattle.md_dirs.specs.Path.{path_cmp}
use Rattle.md_dirs.specs.Rows.{is_in}
use Rattle.md_dirs.specs.Index.{name_cmp, named_row, directory_number, path_at, rows_in}
use Rattle.md_dirs.specs.declared.paths.Path.{Path}
use Rattle.md_dirs.specs.declared.paths.Place.{Place}
use Rattle.md_dirs.specs.declared.paths.Place.TheVariants.{Tmp}
use Rattle.md_dirs.proofs.PathOrder.{path_total}
use Rattle.md_dirs.proofs.Sound.{by_number}
use Rattle.std.proofs.lemmas.Option.{slice_get-map}
use Rattle.md_dirs.proofs.Directories.{path-number, same-directory, lower-directory, is-here, is-elsewhere}
use Rattle.lists.proofs.Booleans.{first, second, both}
use Rattle.lists.proofs.Orders.{less}

-- the number of a row's directory
abbrev pub number_at : Path × ℕ → ℕ
number_at e = directory_number e.0.folder e.0.place

here : (folder : ℕ) (place : Place) (p : Path) → directory_number p.folder p.place ≡ directory_number folder place → is_in folder place p ≡ true
here folder place p is = ap (is_in folder place) (sym (path-number p)) ∙ is-here (directory_number p.folder p.place) folder place p.name is

elsewhere : (folder : ℕ) (place : Place) (p : Path) → directory_number p.folder p.place ≢ directory_number folder place → is_in folder place p ≡ false
elsewhere folder place p differ = ap (is_in folder place) (sym (path-number p)) ∙ is-elsewhere (directory_number p.folder p.place) folder place p.name differ

number-of-in : (folder : ℕ) (place : Place) (p : Path) → is_in folder place p ≡ true → directory_number p.folder p.place ≡ directory_number folder place
number-of-in folder place p is =
    by_number (directory_number p.folder p.place) (directory_number folder place) (λ same. same) (λ differ. let no =
    elsewhere folder place p differ in cc)

-- rows in order go by the numbers of their directories
lower : (p q : Path) → path_cmp p q ≡ Less → directory_number p.folder p.place ≤ directory_number q.folder q.place
lower p q is = by (nat_lt (directory_number q.folder q.place) (directory_number p.folder p.place)) refl
  where
    by : (b : Bool) → nat_lt (directory_number q.folder q.place) (directory_number p.folder p.place) ≡ b →
        directory_number p.folder p.place ≤ directory_number q.folder q.place
    by false t = grind (arith, nat_tests)
    by true t =
        let above : directory_number q.folder q.place < directory_number p.folder p.place = grind (arith, nat_tests) in
        let turned : path_cmp q p ≡ Less = sym (λ i. path_cmp (path-number q i) (path-number p i)) ∙ lower-directory _ _ q.name p.name above in
        let greater : path_cmp p q ≡ Greater = path_total.antisymm p q ∙ ap ordering_reverse turned in
        cc

below-at : (x : Path) (es : List (Path × ℕ)) (i : ℕ) (d : Path × ℕ) → i < length es → T (below_all path_cmp x es) → path_cmp x (get_or es i d).0 ≡ Less
below-at x [] i d within h = absurd (omega arith)
below-at x (e ∷ es) zero d within h = less _ (first _ _ h)
below-at x (e ∷ es) (suc i) d within h = below-at x es i d (omega arith) (second _ _ h)

pub numbers-rise : (rows : List (Path × ℕ)) → T (is_sorted path_cmp rows) → IsNonDecreasingBy number_at rows
numbers-rise [] h i j d le within = absurd (omega arith)
numbers-rise (e ∷ es) h zero zero d le within = omega arith
numbers-rise (e ∷ es) h zero (suc j) d le within = lower e.0 (get_or es j d).0 (below-at e.0 es j d (omega arith) (first _ _ h))
numbers-rise (e ∷ es) h (suc i) zero d le within = absurd (omega arith)
numbers-rise (e ∷ es) h (suc i) (suc j) d le within = numbers-rise es (second _ _ h) i j d (omega arith) (omega arith)

-- what passes a test from one position up to another alone is the part between them
filter-part : {X : Type 0} (p : X → Bool) (xs : List X) (a n : ℕ) → a + n ≤ length xs → ((k : ℕ) (d : X) → k < a → p (get_or xs k d) ≡ false) →
    ((k : ℕ) (d : X) → a ≤ k → k < a + n → p (get_or xs k d) ≡ true)
    → ((k : ℕ) (d : X) → a + n ≤ k → k < length xs → p (get_or xs k d) ≡ false) → filter p xs ≡ take n (drop a xs)
filter-part p [] zero zero within before between behind = refl
filter-part p [] zero (suc n) within before between behind = absurd (omega arith)
filter-part p [] (suc a) n within before between behind = absurd (omega arith)
filter-part p (x ∷ xs) zero zero within before between behind =
    ap (λ t. cond t (x ∷ filter p xs) (filter p xs)) (behind 0 x (omega arith) (omega arith))
    ∙ filter-part p xs zero zero (omega arith) (λ k d h. absurd (omega arith)) (λ k d h h'. absurd (omega arith))
    (λ k d h h'. behind (suc k) d (omega arith) (omega arith))
filter-part p (x ∷ xs) zero (suc n) within before between behind =
    ap (λ t. cond t (x ∷ filter p xs) (filter p xs)) (between 0 x (omega arith) (omega arith))
    ∙ ap (λ ys. x ∷ ys) (filter-part p xs zero n (omega arith) (λ k d h. absurd (omega arith))
    (λ k d h h'. between (suc k) d (omega arith) (omega arith)) (λ k d h h'. behind (suc k) d (omega arith) (omega arith)))
filter-part p (x ∷ xs) (suc a) n within before between behind =
    ap (λ t. cond t (x ∷ filter p xs) (filter p xs)) (before 0 x (omega arith))
    ∙ filter-part p xs a n (omega arith) (λ k d h. before (suc k) d (omega arith)) (λ k d h h'. between (suc k) d (omega arith) (omega arith))
    (λ k d h h'. behind (suc k) d (omega arith) (omega arith))

-- where the rows of a directory begin and end, by the numbers of their directories
module _ (rows : List (Path × ℕ)) (n a b : ℕ) (start : IsPartitionPoint (λ e. ltb (number_at e) n ≡ true) (λ e. ltb (number_at e) n ≡ false) rows a)
    (end : IsPartitionPoint (λ e. leb (number_at e) n ≡ true) (λ e. leb (number_at e) n ≡ false) rows b) (within : a ≤ length rows)
    (within' : b ≤ length rows) where
  pub start-first : a ≤ b
  start-first = by (nat_lt b a) refl
    where
      row : Path × ℕ
      row = (record { folder = 0; place = Tmp; name = [] }, 0)

      by : (t : Bool) → nat_lt b a ≡ t → a ≤ b
      by false t = grind (arith, nat_tests)
      by true t =
          let later : b < a = grind (arith, nat_tests) in
          let low : number_at (get_or rows b row) < n = ltb-true _ n (start.0 b row (omega arith) later) in
          let high : n < number_at (get_or rows b row) = leb-false _ n (end.1 b row (omega arith) (omega arith)) in
          absurd (omega arith)

  pub directory-part : (folder : ℕ) (place : Place) → n ≡ directory_number folder place → take (b - a) (drop a rows) ≡ filter (λ e. is_in folder place e.0) rows
  directory-part folder place is =
      let ordered = start-first in
      sym (filter-part (λ e. is_in folder place e.0) rows a (b - a) (omega arith)
      (λ k d h. elsewhere folder place (get_or rows k d).0 (λ same. let low = ltb-true _ n (start.0 k d (omega arith) h) in absurd (omega arith)))
      (λ k d h h'. here folder place (get_or rows k d).0 (let high = ltb-false _ n (start.1 k d h (omega arith)) in let low =
      leb-true _ n (end.0 k d (omega arith) (omega arith)) in omega arith))
      (λ k d h h'. elsewhere folder place (get_or rows k d).0 (λ same. let high = leb-false _ n (end.1 k d (omega arith) h') in absurd (omega arith))))

-- the names of a directory's rows are in order
names-order : (folder : ℕ) (place : Place) (p q : Path) → is_in folder place p ≡ true → is_in folder place q ≡ true → path_cmp p q ≡ name_cmp p.name q.name
names-order folder place p q at at' =
    let n = directory_number folder place in
    let same : path_at n p.name ≡ p = ap (λ k. path_at k p.name) (sym (number-of-in folder place p at)) ∙ path-number p in
    let same' : path_at n q.name ≡ q = ap (λ k. path_at k q.name) (sym (number-of-in folder place q at')) ∙ path-number q in
    sym (λ i. path_cmp (same i) (same' i)) ∙ same-directory n p.name q.name

below-names : (folder : ℕ) (place : Place) (p : Path) (es : List (Path × ℕ)) → is_in folder place p ≡ true → T (below_all path_cmp p es) →
    T (below_all name_cmp p.name (map named_row (filter (λ e. is_in folder place e.0) es)))
below-names folder place p [] at h = tt
below-names folder place p (e ∷ es) at h = by (below-names folder place p es at (second _ _ h)) (is_in folder place e.0) refl
  where
    by : T (below_all name_cmp p.name (map named_row (filter (λ x. is_in folder place x.0) es))) → (b : Bool) → is_in folder place e.0 ≡ b →
        T (below_all name_cmp p.name (map named_row (cond b (e ∷ filter (λ x. is_in folder place x.0) es) (filter (λ x. is_in folder place x.0) es))))
    by rest true t = both _ _ (subst (λ r. T (is_lt r)) (names-order folder place p e.0 at t) (first _ _ h)) rest
    by rest false t = rest

pub names-sorted : (folder : ℕ) (place : Place) (es : List (Path × ℕ)) → T (is_sorted path_cmp es) →
    T (is_sorted name_cmp (map named_row (filter (λ e. is_in folder place e.0) es)))
names-sorted folder place [] h = tt
names-sorted folder place (e ∷ es) h = by (names-sorted folder place es (second _ _ h)) (is_in folder place e.0) refl
  where
    by : T (is_sorted name_cmp (map named_row (filter (λ x. is_in folder place x.0) es))) → (b : Bool) → is_in folder place e.0 ≡ b →
        T (is_sorted name_cmp (map named_row (cond b (e ∷ filter (λ x. is_in folder place x.0) es) (filter (λ x. is_in folder place x.0) es))))
    by rest true t = both _ _ (below-names folder place e.0 es t (first _ _ h)) rest
    by rest false t = rest

-- rows by their names
pub length-named : (es : List (Path × ℕ)) → length (map named_row es) ≡ length es
length-named [] = refl
length-named (e ∷ es) = ap suc (length-named es)

-- what a list in order shows of a directory
pub rows-listed : (rows : List (Path × ℕ)) (folder : ℕ) (place : Place) → T (is_sorted path_cmp rows) →
    rows_in (from_sorted rows) folder place ≡ map named_row (filter (λ e. is_in folder place e.0) rows)
rows-listed rows folder place h = ap (λ es. map named_row (filter (λ e. is_in folder place e.0) es)) (entries-from_sorted path_cmp rows h)

pub row-listed : (rows : List (Path × ℕ)) (folder : ℕ) (place : Place) (i : ℕ) (o : Option (Path × ℕ)) → T (is_sorted path_cmp rows) →
    slice_get (filter (λ e. is_in folder place e.0) rows) i ≡ o
    → option_map named_row o ≡ slice_get (rows_in (from_sorted rows) folder place) i
row-listed rows folder place i o h is =
    ap (option_map named_row) (sym is) ∙ sym (slice_get-map named_row (filter (λ e. is_in folder place e.0) rows) i) ∙
    ap (λ es. slice_get es i) (sym (rows-listed rows folder place h))

-- what holds of each row by its name holds of each row
pub each-named : (P : List ℕ × ℕ → Type 0) (es : List (Path × ℕ)) →
    ((k : ℕ) (d : List ℕ × ℕ) → k < length (map named_row es) → P (get_or (map named_row es) k d)) → (k : ℕ) (d : Path × ℕ) → k < length es →
    P (named_row (get_or es k d))
each-named P es all k d within = subst P (at es k) (all k (named_row d) (omega (arith, length-named es)))
  where
    at : (xs : List (Path × ℕ)) (i : ℕ) → get_or (map named_row xs) i (named_row d) ≡ named_row (get_or xs i d)
    at [] i = refl
    at (x ∷ xs) zero = refl
    at (x ∷ xs) (suc i) = at xs i
