-- Directories side by side: their rows are in order of their paths, and each path is looked up in its own directory.
use Rattle.std.proofs.Common.{ℕ, zero, suc, ◌≡◌, ◌≢◌, ◌+◌, ◌*◌, ◌/◌, ◌%◌, ◌<◌, ◌≤◌, ◌++◌, ◌==◌, ◌&&◌, List, [], ◌∷◌, Option, Some, None, MatchOption, Bor, Bool, true, false, cond, T, refl, sym, ap, subst, ◌∙◌, arith, length, map, filter, slice_set, get_or, append-nil}
use Rattle.std.proofs.lemmas.Bool.{ltb-true, ltb-false}
use Rattle.std.specs.Option.{option_and_then, option_map_or}
use Rattle.std.specs.Slice.{IsItemAt}
use Rattle.std.proofs.lemmas.Bool.Decides.{nat_tests}
use Rattle.std.proofs.lemmas.Cmp.{nat_cmp_total, tied_itself}
use Rattle.std.specs.declared.cmp.Ordering.TheVariants.{Less, Greater}
use Rattle.std.specs.Ordering.{is_eq, ordering_reverse, ordering_then, nat_cmp}
use Rattle.std.specs.FinMap as finmap
use Rattle.std.specs.FinMap.{find, is_sorted, get-from_sorted, get-entries, get-empty, entries_sorted, entries-from_sorted, same_map}
use Rattle.std.specs.FinMap.Entries.{below_all}
use Rattle.md_dirs.specs.Path.{path_cmp, path_of, place_index}
use Rattle.md_dirs.specs.State.{place_by}
use Rattle.md_dirs.specs.Rows.{is_in}
use Rattle.md_dirs.specs.Index.{NameMap, PathMap, name_cmp, directory_number, path_at, rows_from, names_of, directory_at, rows_in, named_row}
use Rattle.md_dirs.specs.declared.paths.Path.{Path}
use Rattle.md_dirs.specs.declared.paths.Place.{Place}
use Rattle.md_dirs.specs.declared.paths.Place.TheVariants.{Tmp, New, Cur}
use Rattle.md_dirs.proofs.PathOrder.{path_total, path_exact}
use Rattle.md_dirs.proofs.NameRows.{name_total, name_exact}
use Rattle.lists.proofs.Maps as maps
use Rattle.md_dirs.proofs.Sound.{by_path, by_number}
use Rattle.lists.proofs.Booleans.{first, second, both}
use Rattle.lists.proofs.Members.{find-above}
use Rattle.lists.proofs.Orders.{less, is_less}

-- numbers of directories
place_by-index : (place : Place) → place_by (place_index place) ≡ place
place_by-index Tmp = refl
place_by-index New = refl
place_by-index Cur = refl

index-small : (place : Place) → place_index place < 3
index-small Tmp = omega arith
index-small New = omega arith
index-small Cur = omega arith

index-place_by : (n : ℕ) → n < 3 → place_index (place_by n) ≡ n
index-place_by zero h = refl
index-place_by (suc zero) h = refl
index-place_by (suc (suc zero)) h = refl
index-place_by (suc (suc (suc n))) h = absurd (omega arith)

pub path-number : (p : Path) → path_at (directory_number p.folder p.place) p.name ≡ p
path-number p =
    let small = index-small p.place in
    let folder : (3 * p.folder + place_index p.place) / 3 ≡ p.folder = omega arith in
    let place : (3 * p.folder + place_index p.place) % 3 ≡ place_index p.place = omega arith in
    (λ i. path_of (folder i) ((ap place_by place ∙ place_by-index p.place) i) p.name)

pub number-path : (n : ℕ) (name : List ℕ) → directory_number (path_at n name).folder (path_at n name).place ≡ n
number-path n name =
    let small : n % 3 < 3 = omega arith in
    ap (λ k. 3 * (n / 3) + k) (index-place_by (n % 3) small) ∙ omega arith

-- the order of paths by the numbers of their directories
pub same-directory : (n : ℕ) (a b : List ℕ) → path_cmp (path_at n a) (path_at n b) ≡ name_cmp a b
same-directory n a b =
    λ i. ordering_then (tied_itself nat_cmp_total (n / 3) i) (ordering_then (tied_itself nat_cmp_total (place_index (place_by (n % 3))) i) (name_cmp a b))

less-numbers : (a b : ℕ) → a < b → nat_cmp a b ≡ Less
less-numbers a b h = grind (arith, nat_tests)

pub lower-directory : (m n : ℕ) (a b : List ℕ) → m < n → path_cmp (path_at m a) (path_at n b) ≡ Less
lower-directory m n a b below = by_number (m / 3) (n / 3)
    (λ same.
    let places : place_index (place_by (m % 3)) < place_index (place_by (n % 3)) =
    (let small : m % 3 < 3 = omega arith in let small' : n % 3 < 3 = omega arith in let e = index-place_by (m % 3) small in let e' =
    index-place_by (n % 3) small' in omega arith) in
    (λ i. ordering_then ((ap (λ k. nat_cmp k (n / 3)) same ∙ tied_itself nat_cmp_total (n / 3)) i) (ordering_then (less-numbers _ _ places i) (name_cmp a b))))
    (λ differ.
    let folders : m / 3 < n / 3 = omega arith in
    (λ i. ordering_then (less-numbers _ _ folders i)
    (ordering_then (nat_cmp (place_index (place_by (m % 3))) (place_index (place_by (n % 3)))) (name_cmp a b))))

abbrev at : ℕ → List ℕ × ℕ → Path × ℕ
at n e = (path_at n e.0, e.1)

-- rows are in order
below-map : (m n : ℕ) (a : List ℕ) (es : List (List ℕ × ℕ)) (ys : List (Path × ℕ)) → m < n → T (below_all path_cmp (path_at m a) ys) →
    T (below_all path_cmp (path_at m a) (map (at n) es ++ ys))
below-map m n a [] ys below h = h
below-map m n a (e ∷ es) ys below h = both _ _ (is_less _ (lower-directory m n a e.0 below)) (below-map m n a es ys below h)

pub beyond : (m n : ℕ) (a : List ℕ) (ds : List NameMap) → m < n → T (below_all path_cmp (path_at m a) (rows_from n ds))
beyond m n a [] below = tt
beyond m n a (d ∷ ds) below = below-map m n a (finmap.entries d) (rows_from (suc n) ds) below (beyond m (suc n) a ds (omega arith))

below-same : (n : ℕ) (a : List ℕ) (es : List (List ℕ × ℕ)) (ys : List (Path × ℕ)) → T (below_all name_cmp a es) →
    T (below_all path_cmp (path_at n a) ys) → T (below_all path_cmp (path_at n a) (map (at n) es ++ ys))
below-same n a [] ys below h = h
below-same n a (e ∷ es) ys below h =
    both _ _ (is_less _ (same-directory n a e.0 ∙ less _ (first _ _ below))) (below-same n a es ys (second _ _ below) h)

sorted-map : (n : ℕ) (es : List (List ℕ × ℕ)) (ys : List (Path × ℕ)) → T (is_sorted name_cmp es) → T (is_sorted path_cmp ys) →
    ((a : List ℕ) → T (below_all path_cmp (path_at n a) ys)) → T (is_sorted path_cmp (map (at n) es ++ ys))
sorted-map n [] ys sorted sorted' above = sorted'
sorted-map n (e ∷ es) ys sorted sorted' above =
    both _ _ (below-same n e.0 es ys (first _ _ sorted) (above e.0)) (sorted-map n es ys (second _ _ sorted) sorted' above)

pub sorted-rows : (n : ℕ) (ds : List NameMap) → T (is_sorted path_cmp (rows_from n ds))
sorted-rows n [] = tt
sorted-rows n (d ∷ ds) =
    sorted-map n (finmap.entries d) (rows_from (suc n) ds) (entries_sorted d) (sorted-rows (suc n) ds) (λ a. beyond n (suc n) a ds (omega arith))

pub entries-names : (ds : List NameMap) → finmap.entries (names_of ds) ≡ rows_from 0 ds
entries-names ds = entries-from_sorted path_cmp (rows_from 0 ds) (sorted-rows 0 ds)

-- what is found at a path
find-here : (n : ℕ) (a : List ℕ) (es : List (List ℕ × ℕ)) (ys : List (Path × ℕ)) → find path_cmp (path_at n a) ys ≡ None →
    find path_cmp (path_at n a) (map (at n) es ++ ys) ≡ find name_cmp a es
find-here n a [] ys none = none
find-here n a (e ∷ es) ys none = λ i. cond (is_eq (same-directory n a e.0 i)) (Some e.1) (find-here n a es ys none i)

find-past : (m n : ℕ) (a : List ℕ) (es : List (List ℕ × ℕ)) (ys : List (Path × ℕ)) → n < m →
    find path_cmp (path_at m a) (map (at n) es ++ ys) ≡ find path_cmp (path_at m a) ys
find-past m n a [] ys below = refl
find-past m n a (e ∷ es) ys below =
    let above : path_cmp (path_at m a) (path_at n e.0) ≡ Greater = path_total.antisymm (path_at m a) (path_at n e.0) ∙
    ap ordering_reverse (lower-directory n m e.0 a below) in
    ap (λ r. cond (is_eq r) (Some e.1) (find path_cmp (path_at m a) (map (at n) es ++ ys))) above ∙ find-past m n a es ys below

find-rows : (ds : List NameMap) (k n m : ℕ) (a : List ℕ) → m ≡ n + k → find path_cmp (path_at m a) (rows_from n ds) ≡ finmap.get (directory_at ds k) a
find-rows [] k n m a is = sym (get-empty name_cmp a)
find-rows (d ∷ ds) zero n m a is =
    let here : m ≡ n = omega arith in
    ap (λ j. find path_cmp (path_at j a) (rows_from n (d ∷ ds))) here
    ∙ find-here n a (finmap.entries d) (rows_from (suc n) ds) (find-above path_cmp (path_at n a) (rows_from (suc n) ds) (beyond n (suc n) a ds (omega arith)))
    ∙ sym (get-entries d a)
find-rows (d ∷ ds) (suc k) n m a is = find-past m n a (finmap.entries d) (rows_from (suc n) ds) (omega arith) ∙ find-rows ds k (suc n) m a (omega arith)

pub get-names : (ds : List NameMap) (p : Path) → finmap.get (names_of ds) p ≡ finmap.get (directory_at ds (directory_number p.folder p.place)) p.name
get-names ds p =
    get-from_sorted path_cmp (rows_from 0 ds) p (sorted-rows 0 ds)
    ∙ ap (λ (q : Path). find path_cmp q (rows_from 0 ds)) (sym (path-number p))
    ∙ find-rows ds (directory_number p.folder p.place) 0 (directory_number p.folder p.place) p.name (omega arith)

-- directories that are one by one the same have the same paths
pub same-names : (ds es : List NameMap) → ((k : ℕ) → directory_at es k ≡ directory_at ds k) → names_of es ≡ names_of ds
same-names ds es same = same_map path_total path_exact _ _ (λ q.
    get-names es q ∙ ap (λ (m : NameMap). finmap.get m q.name) (same (directory_number q.folder q.place)) ∙ sym (get-names ds q))

-- paths of one directory with one name are one
same-path : (p q : Path) → directory_number q.folder q.place ≡ directory_number p.folder p.place → q.name ≡ p.name → q ≡ p
same-path p q number name = sym (path-number q) ∙ (λ i. path_at (number i) (name i)) ∙ path-number p

module _ (ds es : List NameMap) (p : Path) (others : (k : ℕ) → k ≢ directory_number p.folder p.place → directory_at es k ≡ directory_at ds k) where
  abbrev here : ℕ
  here = directory_number p.folder p.place

  at-other : (q : Path) → directory_number q.folder q.place ≢ here → finmap.get (names_of es) q ≡ finmap.get (names_of ds) q
  at-other q differ = get-names es q ∙ ap (λ (m : NameMap). finmap.get m q.name) (others (directory_number q.folder q.place) differ) ∙ sym (get-names ds q)

  -- the name is as its path is to be, and no other name changed
  write-names : (new : PathMap) → finmap.get (directory_at es here) p.name ≡ finmap.get new p
      → ((name : List ℕ) → name ≢ p.name → finmap.get (directory_at es here) name ≡ finmap.get (directory_at ds here) name)
      → ((q : Path) → q ≢ p → finmap.get new q ≡ finmap.get (names_of ds) q) → names_of es ≡ new
  write-names new written beside others = same_map path_total path_exact _ _ (λ q. by_path q p
      (λ one. ap (finmap.get (names_of es)) one ∙ get-names es p ∙ written ∙ ap (finmap.get new) (sym one))
      (λ differ. by_number (directory_number q.folder q.place) here
      (λ same.
      get-names es q ∙ ap (λ k. finmap.get (directory_at es k) q.name) same ∙ beside q.name (λ name. differ (same-path p q same name))
      ∙ ap (λ k. finmap.get (directory_at ds k) q.name) (sym same) ∙ sym (get-names ds q))
      (at-other q)
      ∙ sym (others q differ)))

  -- a name was put into its directory
  pub put-names : (v : ℕ) → directory_at es here ≡ finmap.insert (directory_at ds here) p.name v → names_of es ≡ finmap.insert (names_of ds) p v
  put-names v is = write-names (finmap.insert (names_of ds) p v)
      (ap (λ (m : NameMap). finmap.get m p.name) is ∙ maps.at_put name_total name_exact (directory_at ds here) p.name p.name v refl
      ∙ sym (maps.at_put path_total path_exact (names_of ds) p p v refl))
      (λ name differ. ap (λ (m : NameMap). finmap.get m name) is ∙ maps.beside_put name_total name_exact (directory_at ds here) p.name name v differ)
      (λ q. maps.beside_put path_total path_exact (names_of ds) p q v)

  -- a name was taken from its directory
  pub take-names : directory_at es here ≡ finmap.remove (directory_at ds here) p.name → names_of es ≡ finmap.remove (names_of ds) p
  take-names is = write-names (finmap.remove (names_of ds) p)
      (ap (λ (m : NameMap). finmap.get m p.name) is ∙ maps.at_drop name_total name_exact (directory_at ds here) p.name p.name refl
      ∙ sym (maps.at_drop path_total path_exact (names_of ds) p p refl))
      (λ name differ. ap (λ (m : NameMap). finmap.get m name) is ∙ maps.beside_drop name_total name_exact (directory_at ds here) p.name name differ)
      (maps.beside_drop path_total path_exact (names_of ds) p)

-- the directory that was written, and the others
pub at-set : (ds : List NameMap) (i : ℕ) (d : NameMap) → i < length ds → directory_at (slice_set ds i d) i ≡ d
at-set [] i d within = absurd (omega arith)
at-set (x ∷ xs) zero d within = refl
at-set (x ∷ xs) (suc i) d within = at-set xs i d (omega arith)

pub beside-set : (ds : List NameMap) (i k : ℕ) (d : NameMap) → k ≢ i → directory_at (slice_set ds i d) k ≡ directory_at ds k
beside-set [] i k d differ = refl
beside-set (x ∷ xs) zero zero d differ = absurd (differ refl)
beside-set (x ∷ xs) zero (suc k) d differ = refl
beside-set (x ∷ xs) (suc i) zero d differ = refl
beside-set (x ∷ xs) (suc i) (suc k) d differ = beside-set xs i k d (λ is. differ (ap suc is))

pub past-end : (ds : List NameMap) (k : ℕ) → length ds ≤ k → directory_at ds k ≡ finmap.empty
past-end [] k past = refl
past-end (x ∷ xs) zero past = absurd (omega arith)
past-end (x ∷ xs) (suc k) past = past-end xs k (omega arith)

pub none-past : (ds : List NameMap) (p : Path) → length ds ≤ directory_number p.folder p.place → finmap.get (names_of ds) p ≡ None
none-past ds p past = get-names ds p ∙ ap (λ (m : NameMap). finmap.get m p.name) (past-end ds _ past) ∙ get-empty name_cmp p.name

-- nothing is to be taken from a directory past the last
pub gone-past : (ds : List NameMap) (p : Path) → length ds ≤ directory_number p.folder p.place → names_of ds ≡ finmap.remove (names_of ds) p
gone-past ds p past = sym (maps.drop-absent path_total path_exact (names_of ds) p (none-past ds p past))

-- a directory that is read at its number
pub read-directory : (ds : List NameMap) (i : ℕ) (d : NameMap) → i < length ds → d ≡ get_or ds i d → directory_at ds i ≡ d
read-directory [] i d within is = absurd (omega arith)
read-directory (x ∷ xs) zero d within is = sym is
read-directory (x ∷ xs) (suc i) d within is = read-directory xs i d (omega arith) is

-- the rows of one directory
pub is-here : (n : ℕ) (folder : ℕ) (place : Place) (a : List ℕ) → n ≡ directory_number folder place → is_in folder place (path_at n a) ≡ true
is-here n folder place a is =
    let one : path_at n a ≡ path_of folder place a = ap (λ k. path_at k a) is ∙ path-number (path_of folder place a) in
    let folders : (folder == folder) ≡ true = grind (arith, nat_tests) in
    let places : (place_index place == place_index place) ≡ true = grind (arith, nat_tests) in
    ap (is_in folder place) one ∙ (λ i. folders i && places i)

pub is-elsewhere : (n : ℕ) (folder : ℕ) (place : Place) (a : List ℕ) → n ≢ directory_number folder place → is_in folder place (path_at n a) ≡ false
is-elsewhere n folder place a differ = by ((path_at n a).folder == folder) (place_index (path_at n a).place == place_index place) refl refl
  where
    by : (s t : Bool) → ((path_at n a).folder == folder) ≡ s → (place_index (path_at n a).place == place_index place) ≡ t → (s && t) ≡ false
    by true true same same' =
        let folders : (path_at n a).folder ≡ folder = grind (arith, nat_tests) in
        let places : place_index (path_at n a).place ≡ place_index place = grind (arith, nat_tests) in
        absurd (differ (sym (number-path n a) ∙ (λ i. 3 * folders i + places i)))
    by true false same same' = refl
    by false t same same' = refl

keep-here : (n : ℕ) (folder : ℕ) (place : Place) (es : List (List ℕ × ℕ)) (ys : List (Path × ℕ)) → n ≡ directory_number folder place
    → map named_row (filter (λ e. is_in folder place e.0) (map (at n) es ++ ys)) ≡ es ++ map named_row (filter (λ e. is_in folder place e.0) ys)
keep-here n folder place [] ys is = refl
keep-here n folder place (e ∷ es) ys is =
    ap (λ b. map named_row
    (cond b (at n e ∷ filter (λ x. is_in folder place x.0) (map (at n) es ++ ys)) (filter (λ x. is_in folder place x.0) (map (at n) es ++ ys))))
    (is-here n folder place e.0 is)
    ∙ ap (λ xs. e ∷ xs) (keep-here n folder place es ys is)

drop-elsewhere : (n : ℕ) (folder : ℕ) (place : Place) (es : List (List ℕ × ℕ)) (ys : List (Path × ℕ)) → n ≢ directory_number folder place
    → map named_row (filter (λ e. is_in folder place e.0) (map (at n) es ++ ys)) ≡ map named_row (filter (λ e. is_in folder place e.0) ys)
drop-elsewhere n folder place [] ys differ = refl
drop-elsewhere n folder place (e ∷ es) ys differ =
    ap (λ b. map named_row
    (cond b (at n e ∷ filter (λ x. is_in folder place x.0) (map (at n) es ++ ys)) (filter (λ x. is_in folder place x.0) (map (at n) es ++ ys))))
    (is-elsewhere n folder place e.0 differ)
    ∙ drop-elsewhere n folder place es ys differ

later-none : (n : ℕ) (folder : ℕ) (place : Place) (ds : List NameMap) → directory_number folder place < n →
    map named_row (filter (λ e. is_in folder place e.0) (rows_from n ds)) ≡ []
later-none n folder place [] above = refl
later-none n folder place (d ∷ ds) above =
    drop-elsewhere n folder place (finmap.entries d) (rows_from (suc n) ds) (λ is. absurd (omega arith)) ∙ later-none (suc n) folder place ds (omega arith)

rows-of-one : (ds : List NameMap) (k n : ℕ) (folder : ℕ) (place : Place) → directory_number folder place ≡ n + k
    → map named_row (filter (λ e. is_in folder place e.0) (rows_from n ds)) ≡ finmap.entries (directory_at ds k)
rows-of-one [] k n folder place is = sym (maps.entries-empty name_cmp)
rows-of-one (d ∷ ds) zero n folder place is =
    keep-here n folder place (finmap.entries d) (rows_from (suc n) ds) (omega arith)
    ∙ ap (λ xs. finmap.entries d ++ xs) (later-none (suc n) folder place ds (omega arith)) ∙ append-nil (finmap.entries d)
rows-of-one (d ∷ ds) (suc k) n folder place is =
    drop-elsewhere n folder place (finmap.entries d) (rows_from (suc n) ds) (λ same. absurd (omega arith)) ∙ rows-of-one ds k (suc n) folder place (omega arith)

pub rows-in : (ds : List NameMap) (folder : ℕ) (place : Place) →
    rows_in (names_of ds) folder place ≡ finmap.entries (directory_at ds (directory_number folder place))
rows-in ds folder place =
    ap (λ es. map named_row (filter (λ e. is_in folder place e.0) es)) (entries-names ds)
    ∙ rows-of-one ds (directory_number folder place) 0 folder place (omega arith)

-- the directory that is looked up at its number, where it is there, and what it has
module _ (ds : List NameMap) (folder : ℕ) (place : Place) where
  abbrev looked-up : Option (Bor NameMap) → NameMap
  looked-up o = option_map_or (λ d. d.now) o finmap.empty

  looked-at : (o : Option (Bor NameMap)) → IsItemAt ds (directory_number folder place) o → directory_at ds (directory_number folder place) ≡ looked-up o
  looked-at None is = past-end ds _ (ltb-false _ _ (sym is.0))
  looked-at (Some d) is = read-directory ds _ d.now (ltb-true _ _ (sym is.0)) is.1

  pub rows-of : (o : Option (Bor NameMap)) → IsItemAt ds (directory_number folder place) o →
      MatchOption o (rows_in (names_of ds) folder place ≡ []) (λ d. rows_in (names_of ds) folder place ≡ finmap.entries d.now)
  rows-of None is = rows-in ds folder place ∙ ap finmap.entries (looked-at None is) ∙ maps.entries-empty name_cmp
  rows-of (Some d) is = rows-in ds folder place ∙ ap finmap.entries (looked-at (Some d) is)

  pub files-of : (o : Option (Bor NameMap)) → IsItemAt ds (directory_number folder place) o → (name : List ℕ) →
      finmap.get (names_of ds) (path_of folder place name) ≡ option_and_then (λ d. finmap.get d.now name) o
  files-of o is name = get-names ds (path_of folder place name) ∙ ap (λ (d : NameMap). finmap.get d name) (looked-at o is) ∙ by o
    where
      by : (o : Option (Bor NameMap)) → finmap.get (looked-up o) name ≡ option_and_then (λ d. finmap.get d.now name) o
      by None = get-empty name_cmp name
      by (Some d) = refl

-- a directory that is written at its number, where each directory is as it was, but for new ones behind that have no name
module _ (ds us : List NameMap) (same : (k : ℕ) → directory_at us k ≡ directory_at ds k) (n : ℕ) (d d' : NameMap)
    (within : n < length us) (is : d ≡ get_or us n d) where
  before : d ≡ directory_at ds n
  before = sym (read-directory us n d within is) ∙ same n

  pub kept-at : d' ≡ d → names_of (slice_set us n d') ≡ names_of ds
  kept-at kept = same-names ds (slice_set us n d') (λ k. by_number k n
      (λ here. ap (directory_at (slice_set us n d')) here ∙ at-set us n d' within ∙ kept ∙ before ∙ ap (directory_at ds) (sym here))
      (λ differ. beside-set us n k d' differ ∙ same k))

  module _ (p : Path) (name : List ℕ) (here : n ≡ directory_number p.folder p.place) (named : name ≡ p.name) where
    pub get-at : finmap.get d name ≡ finmap.get (names_of ds) p
    get-at = (λ i. finmap.get (before i) (named i)) ∙ ap (λ k. finmap.get (directory_at ds k) p.name) here ∙ sym (get-names ds p)

    others : (k : ℕ) → k ≢ directory_number p.folder p.place → directory_at (slice_set us n d') k ≡ directory_at ds k
    others k differ = beside-set us n k d' (λ at. differ (at ∙ here)) ∙ same k

    pub put-at : (v : ℕ) → d' ≡ finmap.insert d name v → names_of (slice_set us n d') ≡ finmap.insert (names_of ds) p v
    put-at v written = put-names ds _ p others v
        (subst (λ (j : ℕ). directory_at (slice_set us n d') j ≡ finmap.insert (directory_at ds j) p.name v) here
        (at-set us n d' within ∙ written ∙ (λ i. finmap.insert (before i) (named i) v)))

    pub take-at : d' ≡ finmap.remove d name → names_of (slice_set us n d') ≡ finmap.remove (names_of ds) p
    take-at written = take-names ds _ p others
        (subst (λ (j : ℕ). directory_at (slice_set us n d') j ≡ finmap.remove (directory_at ds j) p.name) here
        (at-set us n d' within ∙ written ∙ (λ i. finmap.remove (before i) (named i))))

-- a name took another's place in a directory
pub rename-names : (ds : List NameMap) (i : ℕ) (d : NameMap) (o p : Path) (v : ℕ) → i < length ds → i ≡ directory_number o.folder o.place →
    i ≡ directory_number p.folder p.place
    → d ≡ finmap.remove (finmap.insert (directory_at ds i) p.name v) o.name → names_of (slice_set ds i d) ≡ finmap.remove (finmap.insert (names_of ds) p v) o
rename-names ds i d o p v within from to is =
    let m : NameMap = finmap.insert (directory_at ds i) p.name v in
    let mid : List NameMap = slice_set ds i m in
    let put : names_of mid ≡ finmap.insert (names_of ds) p v =
    put-names ds mid p (λ k differ. beside-set ds i k m (λ e. differ (e ∙ to))) v
    (subst (λ (j : ℕ). directory_at mid j ≡ finmap.insert (directory_at ds j) p.name v) to (at-set ds i m within)) in
    let taken : names_of (slice_set ds i d) ≡ finmap.remove (names_of mid) o =
    take-names mid (slice_set ds i d) o (λ k differ. beside-set ds i k d (λ e. differ (e ∙ from)) ∙ sym (beside-set ds i k m (λ e. differ (e ∙ from))))
    (subst (λ (j : ℕ). directory_at (slice_set ds i d) j ≡ finmap.remove (directory_at mid j) o.name) from (at-set ds i d within ∙ is ∙
    ap (λ (x : NameMap). finmap.remove x o.name) (sym (at-set ds i m within)))) in
    taken ∙ ap (λ (x : PathMap). finmap.remove x o) put
