-- The least of some rows, as a look at each row finds it, is the first of the rows in order that passes.
use Rattle.std.proofs.Common.{ℕ, zero, suc, ◌≡◌, ◌+◌, ◌<◌, ◌≤◌, ◌++◌, List, [], ◌∷◌, Option, Some, None, Bool, true, false, cond, T, length, drop, refl, sym, ap, subst, ◌∙◌, arith, get_or, slice_get, nat_eq, ◌&&◌, is_some, nat_lt, append-nil, All}
use Rattle.std.proofs.lemmas.Bool.Decides.{nat_tests}
use Rattle.std.proofs.lemmas.List.{drop_more}
use Rattle.std.proofs.lemmas.List.Elements.{All-get_or}
use Rattle.std.proofs.lemmas.Cmp.{tied_itself}
use Rattle.std.proofs.lemmas.List.MinMax.{ranks_by}
use Rattle.std.proofs.lemmas.List.Folds.{find_at}
use Rattle.std.proofs.lemmas.Option.{cond_some, slice_get_past, slice_get-get_or, get_or_from_slice_get, slice_get_within}
use Rattle.std.proofs.lemmas.Bool.{eqb-true, or_parts}
use Rattle.std.specs.declared.cmp.Ordering.{Ordering}
use Rattle.std.specs.declared.cmp.Ordering.TheVariants.{Less, Equal, Greater}
use Rattle.std.specs.Ordering.{is_lt, ordering_reverse}
use Rattle.std.specs.List.{find as first_with, position, position_or_len, list_any, starts_with, IsDistinct, AllByRecursion}
use Rattle.std.specs.Map.{keys_of, lookup}
use Rattle.std.specs.FinMap as finmap
use Rattle.std.specs.FinMap.{from_entries, is_sorted, entries-insert, entries_sorted, get-entries, find}
use Rattle.std.specs.FinMap.Entries.{put, below_all, by_order, length-put}
use Rattle.md_name.specs.Names.{unique_of, is_colon}
use Rattle.md_dirs.specs.Index.{name_cmp, IsOrderOf}
use Rattle.md_dirs.specs.Named.{is_alike, alike_equiv}
use Rattle.md_dirs.specs.Rows.{is_named, ends_unique}
use Rattle.md_dirs.specs.Least.{lesser}
use Rattle.lists.proofs.Booleans.{first, second, both}
use Rattle.lists.proofs.Orders.{less, is-less, is_less}
use Rattle.lists.proofs.Members.{below-trans}
use Rattle.lists.proofs.Maps.{entries-empty}
use Rattle.md_dirs.proofs.Uniques.{unique-cons, unique-stop, unique-none, bare}
use Rattle.md_dirs.proofs.NameRows.{Row, name_total, name_exact, get-within, same, get-loose}
use Rattle.md_dirs.proofs.Ordered.{listed, long, at-place}

-- a row before others: it is the least, unless theirs is less
abbrev pub front : Row → Option Row → Option Row
front e None = Some e
front e (Some b) = cond (is_lt (name_cmp b.0 e.0)) (Some b) (Some e)

-- the least row so far, before the others
abbrev pub joined : Option Row → Option Row → Option Row
joined None o = o
joined (Some a) o = front a o

pub joined-none : (a : Option Row) → joined a None ≡ a
joined-none None = refl
joined-none (Some a) = refl

not-lower : (x y z : List ℕ) → is_lt (name_cmp x y) ≡ false → is_lt (name_cmp y z) ≡ false → is_lt (name_cmp x z) ≡ false
not-lower x y z h k = (ranks_by name_total (λ (w : List ℕ). w)).chain x y z h k

lower-trans : (x y z : List ℕ) → is_lt (name_cmp x y) ≡ true → is_lt (name_cmp y z) ≡ true → is_lt (name_cmp x z) ≡ true
lower-trans x y z h k = ap is_lt (name_total.trans x y z (is-less _ h) (is-less _ k))

-- the rows are looked at from the front
step : (a : Option Row) (e : Row) (o : Option Row) → joined a (front e o) ≡ joined (lesser a e) o
step None e o = refl
step (Some a) e None = by (is_lt (name_cmp e.0 a.0))
  where
    by : (x : Bool) → cond x (Some e) (Some a) ≡ joined (cond x (Some e) (Some a)) None
    by true = refl
    by false = refl
step (Some a) e (Some b) = by (is_lt (name_cmp b.0 e.0)) (is_lt (name_cmp e.0 a.0)) refl refl
  where
    by : (x y : Bool) → is_lt (name_cmp b.0 e.0) ≡ x → is_lt (name_cmp e.0 a.0) ≡ y →
        front a (cond x (Some b) (Some e)) ≡ joined (cond y (Some e) (Some a)) (Some b)
    by true true be ea = ap (λ t. cond t (Some b) (Some a)) (lower-trans b.0 e.0 a.0 be ea) ∙ ap (λ t. cond t (Some b) (Some e)) (sym be)
    by true false be ea = refl
    by false true be ea = ap (λ t. cond t (Some e) (Some a)) ea ∙ ap (λ t. cond t (Some b) (Some e)) (sym be)
    by false false be ea = ap (λ t. cond t (Some e) (Some a)) ea ∙ ap (λ t. cond t (Some b) (Some a)) (sym (not-lower b.0 e.0 a.0 be ea))

-- what holds of each row holds of one that was read
pub all-got : (P : Row → Type 0) (es : List Row) (i : ℕ) (r : Row) → All P es → slice_get es i ≡ Some r → P r
all-got P es i r all is = subst P (get_or_from_slice_get es i r r is) (All-get_or P es i r (slice_get_within es i r is) all)

-- what is read from the first of two lists
pub get-ahead : (es fs : List Row) (i : ℕ) (e : Row) → slice_get es i ≡ Some e → slice_get (es ++ fs) i ≡ Some e
get-ahead [] fs i e is = cc
get-ahead (x ∷ es) fs zero e is = is
get-ahead (x ∷ es) fs (suc i) e is = get-ahead es fs i e is

-- what is read at a position is before the rest
pub drop-at : (es : List Row) (i : ℕ) (e : Row) → slice_get es i ≡ Some e → drop i es ≡ e ∷ drop (i + 1) es
drop-at es i e is =
    let at = get-within es i e is in
    drop_more es i e at.0 ∙ ap (λ x. x ∷ drop (i + 1) es) at.1

module _ (p : List ℕ → Bool) where
  -- the first row whose name passes
  abbrev pub passed : List Row → Option Row
  passed es = first_with (λ e. p e.0) es

  -- the least of the rows whose names pass, of equal names the first
  abbrev pub best : List Row → Option Row
  best [] = None
  best (e ∷ es) = cond (p e.0) (front e (best es)) (best es)

  front-below : (x : Row) (es : List Row) → T (below_all name_cmp x.0 es) → front x (passed es) ≡ Some x
  front-below x [] h = refl
  front-below x (e ∷ es) h = by (p e.0) (front-below x es (second _ _ h))
    where
      turned : is_lt (name_cmp e.0 x.0) ≡ false
      turned = ap is_lt (name_total.antisymm e.0 x.0
          ∙ ap ordering_reverse (less (name_cmp x.0 e.0) (first (is_lt (name_cmp x.0 e.0)) (below_all name_cmp x.0 es) h)))

      by : (b : Bool) → front x (passed es) ≡ Some x → front x (cond b (Some e) (passed es)) ≡ Some x
      by true rest = ap (λ t. cond t (Some e) (Some x)) turned
      by false rest = rest

  first-put : (k : List ℕ) (v : ℕ) (es : List Row) → T (is_sorted name_cmp es) →
      passed (put name_cmp k v es) ≡ cond (p k) (front (k, v) (passed es)) (passed es)
  first-put k v [] h = refl
  first-put k v (e ∷ es) h = by (name_cmp k e.0) refl (first-put k v es (second _ _ h))
    where
      behind : (a b : Bool) → is_lt (name_cmp e.0 k) ≡ true → a ≡ p k →
          passed (put name_cmp k v es) ≡ cond (p k) (front (k, v) (passed es)) (passed es) →
          cond b (Some e) (passed (put name_cmp k v es)) ≡ cond a (front (k, v) (cond b (Some e) (passed es))) (cond b (Some e) (passed es))
      behind true true up is rest = ap (λ t. cond t (Some e) (Some (k, v))) (sym up)
      behind false true up is rest = refl
      behind a false up is rest = rest ∙ ap (λ t. cond t (front (k, v) (passed es)) (passed es)) (sym is)

      same-key : (b : Bool) → cond b (Some (e.0, v)) (passed es) ≡
          cond b (front (e.0, v) (cond b (Some e) (passed es))) (cond b (Some e) (passed es))
      same-key true = ap (λ o. cond (is_lt o) (Some e) (Some (e.0, v))) (sym (tied_itself name_total e.0))
      same-key false = refl

      by : (o : Ordering) → name_cmp k e.0 ≡ o →
          passed (put name_cmp k v es) ≡ cond (p k) (front (k, v) (passed es)) (passed es) →
          passed (by_order o ((k, v) ∷ e ∷ es) ((e.0, v) ∷ es) (e ∷ put name_cmp k v es)) ≡
          cond (p k) (front (k, v) (passed (e ∷ es))) (passed (e ∷ es))
      by Less is rest = ap (λ o. cond (p k) o (passed (e ∷ es)))
          (sym (front-below (k, v) (e ∷ es) (both _ _ (is_less _ is) (below-trans name_total k e.0 es is (first _ _ h)))))
      by Equal is rest = subst (λ (w : List ℕ). cond (p e.0) (Some (e.0, v)) (passed es) ≡
          cond (p w) (front (w, v) (passed (e ∷ es))) (passed (e ∷ es))) (sym (name_exact k e.0 is)) (same-key (p e.0))
      by Greater is rest = behind (p k) (p e.0) (ap is_lt (name_total.antisymm e.0 k ∙ ap ordering_reverse is)) refl rest

  pub least-listed : (es : List Row) → passed (finmap.entries {R = name_cmp} (from_entries es)) ≡ best es
  least-listed [] = ap passed (entries-empty name_cmp)
  least-listed (e ∷ es) =
      let m = from_entries {R = name_cmp} es in
      ap passed (entries-insert name_total m e.0 e.1)
      ∙ first-put e.0 e.1 (finmap.entries m) (entries_sorted m)
      ∙ ap (λ o. cond (p e.0) (front e o) o) (least-listed es)

  none-best : (es : List Row) → passed es ≡ None → best es ≡ None
  none-best [] is = refl
  none-best (e ∷ es) is = by (p e.0) is (none-best es)
    where
      by : (b : Bool) → cond b (Some e) (passed es) ≡ None → (passed es ≡ None → best es ≡ None) → cond b (front e (best es)) (best es) ≡ None
      by true h rest = cc
      by false h rest = rest h

  -- one more row was looked at
  pub look-on : (es : List Row) (at : ℕ) (e : Row) (a goal : Option Row) → slice_get es at ≡ Some e → joined a (best (drop at es)) ≡ goal →
      joined (cond (p e.0) (lesser a e) a) (best (drop (at + 1) es)) ≡ goal
  look-on es at e a goal is so-far = by (p e.0) ∙ sym (ap (λ xs. joined a (best xs)) (drop-at es at e is)) ∙ so-far
    where
      by : (b : Bool) → joined (cond b (lesser a e) a) (best (drop (at + 1) es)) ≡
          joined a (cond b (front e (best (drop (at + 1) es))) (best (drop (at + 1) es)))
      by true = sym (step a e (best (drop (at + 1) es)))
      by false = refl

-- what is above a row in order is behind it
front-less : (x : Row) (es : List Row) (k : ℕ) (e : Row) → T (below_all name_cmp x.0 es) → slice_get es k ≡ Some e → name_cmp x.0 e.0 ≡ Less
front-less x [] k e h is = cc
front-less x (y ∷ es) zero e h is = let same : y ≡ e = cc in subst (λ (w : Row). name_cmp x.0 w.0 ≡ Less) same (less _ (first _ _ h))
front-less x (y ∷ es) (suc k) e h is = front-less x es k e (second _ _ h) is

pub first-of : (es : List Row) → first_with (λ e. true) es ≡ slice_get es 0
first-of [] = refl
first-of (e ∷ es) = refl

first-behind : (x : Row) (es : List Row) → T (below_all name_cmp x.0 es) → first_with (λ f. is_lt (name_cmp x.0 f.0)) es ≡ slice_get es 0
first-behind x [] h = refl
first-behind x (e ∷ es) h = ap (λ o. cond (is_lt o) (Some e) (first_with (λ f. is_lt (name_cmp x.0 f.0)) es)) (less _ (first _ _ h))

pub next-of : (es : List Row) (k : ℕ) (e : Row) → T (is_sorted name_cmp es) → slice_get es k ≡ Some e →
    first_with (λ f. is_lt (name_cmp e.0 f.0)) es ≡ slice_get es (k + 1)
next-of [] k e h is = cc
next-of (x ∷ es) zero e h is =
    let same : x ≡ e = cc in
    subst (λ (w : Row). first_with (λ f. is_lt (name_cmp w.0 f.0)) (x ∷ es) ≡ slice_get es 0) same
    (ap (λ o. cond (is_lt o) (Some x) (first_with (λ f. is_lt (name_cmp x.0 f.0)) es)) (tied_itself name_total x.0)
    ∙ first-behind x es (first _ _ h))
next-of (x ∷ es) (suc k) e h is =
    let one : suc (k + 1) ≡ suc k + 1 = omega arith in
    ap (λ o. cond (is_lt o) (Some x) (first_with (λ f. is_lt (name_cmp e.0 f.0)) es))
    (name_total.antisymm e.0 x.0 ∙ ap ordering_reverse (front-less x es k e (first _ _ h) is))
    ∙ next-of es k e (second _ _ h) is
    ∙ ap (slice_get (x ∷ es)) one

-- where none is at a position, none is behind it
pub none-past : (es : List Row) (i k : ℕ) → slice_get es i ≡ None → i ≤ k → slice_get es k ≡ None
none-past [] i k is low = refl
none-past (e ∷ es) zero k is low = cc
none-past (e ∷ es) (suc i) zero is low = absurd (omega arith)
none-past (e ∷ es) (suc i) (suc k) is low = none-past es i k is (omega arith)

-- ---- how many rows there are

none-looked : (q : List ℕ) (es : List Row) → AllByRecursion (λ y. same q y ≡ false) (keys_of es) → lookup (same q) es ≡ None
none-looked q [] h = refl
none-looked q (e ∷ es) h = ap (λ b. cond b (Some e.1) (lookup (same q) es)) h.0 ∙ none-looked q es h.1

pub length-listed : (es : List Row) → IsDistinct same (keys_of es) → length (finmap.entries {R = name_cmp} (from_entries es)) ≡ length es
unfolding IsDistinct
length-listed [] d = ap length (entries-empty name_cmp)
length-listed (e ∷ es) d =
    let m = from_entries {R = name_cmp} es in
    let new : find name_cmp e.0 (finmap.entries m) ≡ None = sym (get-entries m e.0) ∙ get-loose es e.0 ∙ none-looked e.0 es d.0 in
    let rest = length-listed es d.1 in
    ap length (entries-insert name_total m e.0 e.1)
    ∙ length-put name_cmp name_total e.0 e.1 (finmap.entries m) (entries_sorted m)
    ∙ ap (λ (o : Option ℕ). cond (is_some o) (length (finmap.entries m)) (length (finmap.entries m) + 1)) new
    ∙ omega (arith, rest)

-- ---- rows by their positions in order

pub arranged-at : (rows : List Row) (order : List ℕ) (at : ℕ) (r : Row) → IsOrderOf rows order → at < length (listed rows) →
    slice_get rows (get_or order at 0) ≡ Some r → Some r ≡ slice_get (listed rows) at
arranged-at rows order at r is within read =
    let same-length = long rows order is in
    let h : at < length order = omega (arith, within, same-length) in
    sym (slice_get-get_or (listed rows) at ([], 0) within
    ∙ ap Some (at-place rows order is at h ∙ get_or_from_slice_get rows (get_or order at 0) r ([], 0) read))

-- ---- the row of a unique part

found-some : {X : Type 0} (test : X → Bool) (xs : List X) (i : ℕ) → position test xs ≡ Some i → first_with test xs ≡ slice_get xs i
found-some test xs i is = find_at test xs ∙ ap (slice_get xs) (cond_some (nat_lt (position_or_len test xs) (length xs)) (position_or_len test xs) i is).1

found-none : {X : Type 0} (test : X → Bool) (xs : List X) → position test xs ≡ None → first_with test xs ≡ None
found-none test [] is = refl
found-none test (x ∷ xs) is = find_at test (x ∷ xs) ∙ by (nat_lt (position_or_len test (x ∷ xs)) (length (x ∷ xs))) refl is
  where
    by : (b : Bool) → nat_lt (position_or_len test (x ∷ xs)) (length (x ∷ xs)) ≡ b →
        cond b (Some (position_or_len test (x ∷ xs))) None ≡ None → slice_get (x ∷ xs) (position_or_len test (x ∷ xs)) ≡ None
    by true t h = cc
    by false t h = slice_get_past (x ∷ xs) (position_or_len test (x ∷ xs))
        (let past : length (x ∷ xs) ≤ position_or_len test (x ∷ xs) = grind (arith, nat_tests) in past)

grouped : (x y z : Bool) → ((x && y) && z) ≡ (x && (y && z))
grouped true y z = refl
grouped false y z = refl

colon-apart : (b c : ℕ) → is_colon b ≡ false → is_colon c ≡ true → nat_eq b c ≡ false
colon-apart b c plain there = by (nat_eq b c) refl
  where
    by : (t : Bool) → nat_eq b c ≡ t → t ≡ false
    by true is = let one : b ≡ c = eqb-true b c is in let two : is_colon b ≡ is_colon c = ap is_colon one in cc
    by false is = refl

-- a name is named by a unique name without a colon where that is its unique part
named-is : (u name : List ℕ) → list_any is_colon u ≡ false → is_named u name ≡ same u (unique_of name)
named-is [] [] h = sym (ap (same []) unique-none)
named-is [] (c ∷ cs) h = by (is_colon c) refl
  where
    by : (b : Bool) → is_colon c ≡ b → is_named [] (c ∷ cs) ≡ same [] (unique_of (c ∷ cs))
    by true t = t ∙ sym (ap (same []) (unique-stop c cs t))
    by false t = t ∙ sym (ap (same []) (unique-cons c cs t))
named-is (b ∷ u) [] h = sym (ap (same (b ∷ u)) unique-none)
named-is (b ∷ u) (c ∷ cs) h =
    let parts = or_parts (is_colon b) (list_any is_colon u) h in
    by (is_colon c) refl parts.0 (named-is u cs parts.1)
  where
    by : (t : Bool) → is_colon c ≡ t → is_colon b ≡ false → is_named u cs ≡ same u (unique_of cs) →
        is_named (b ∷ u) (c ∷ cs) ≡ same (b ∷ u) (unique_of (c ∷ cs))
    by true t plain rest =
        ap (λ x. (x && starts_with nat_eq cs u) && ends_unique (drop (length u) cs)) (colon-apart b c plain t)
        ∙ sym (ap (same (b ∷ u)) (unique-stop c cs t))
    by false t plain rest =
        grouped (nat_eq b c) (starts_with nat_eq cs u) (ends_unique (drop (length u) cs))
        ∙ ap (λ x. nat_eq b c && x) rest
        ∙ sym (ap (same (b ∷ u)) (unique-cons c cs t))

module _ (u : List ℕ) (colonless : list_any is_colon u ≡ false) where
  as-alike : (e : Row) → is_named u e.0 ≡ is_alike (u, 0) e
  as-alike e = named-is u e.0 colonless ∙ ap (λ w. same w (unique_of e.0)) (sym (bare u colonless))

  others-none : (e : Row) (es : List Row) → is_named u e.0 ≡ true → AllByRecursion (λ y. is_alike e y ≡ false) es → best (is_named u) es ≡ None
  others-none e [] is d = refl
  others-none e (y ∷ es) is d =
      let no : is_named u y.0 ≡ false = as-alike y ∙ alike_equiv.congr (u, 0) e y (sym (as-alike e) ∙ is) ∙ d.0 in
      ap (λ b. cond b (front y (best (is_named u) es)) (best (is_named u) es)) no ∙ others-none e es is d.1

  best-one : (es : List Row) → IsDistinct is_alike es → best (is_named u) es ≡ passed (is_named u) es
  unfolding IsDistinct
  best-one [] d = refl
  best-one (e ∷ es) d = by (is_named u e.0) (λ t. others-none e es t d.0) (best-one es d.1) refl
    where
      by : (b : Bool) → (is_named u e.0 ≡ true → best (is_named u) es ≡ None) → best (is_named u) es ≡ passed (is_named u) es → is_named u e.0 ≡ b →
          cond b (front e (best (is_named u) es)) (best (is_named u) es) ≡ cond b (Some e) (passed (is_named u) es)
      by true none rest t = ap (front e) (none t)
      by false none rest t = rest

  passed-alike : (es : List Row) → passed (is_named u) es ≡ first_with (is_alike (u, 0)) es
  passed-alike [] = refl
  passed-alike (e ∷ es) = λ i. cond (as-alike e i) (Some e) (passed-alike es i)

  -- the row that a table finds by a unique part is the first that it names
  pub found : (es : List Row) (i : ℕ) → IsDistinct is_alike es → position (is_alike (u, 0)) es ≡ Some i →
      passed (is_named u) (finmap.entries {R = name_cmp} (from_entries es)) ≡ slice_get es i
  found es i d is = least-listed (is_named u) es ∙ best-one es d ∙ passed-alike es ∙ found-some (is_alike (u, 0)) es i is

  pub not-found : (es : List Row) → position (is_alike (u, 0)) es ≡ None → passed (is_named u) (finmap.entries {R = name_cmp} (from_entries es)) ≡ None
  not-found es is = least-listed (is_named u) es ∙ none-best (is_named u) es (passed-alike es ∙ found-none (is_alike (u, 0)) es is)

-- where no name stands beside the table, its rows are all
pub alone : (rows others : List Row) → others ≡ [] → from_entries {R = name_cmp} rows ≡ from_entries (rows ++ others)
alone rows others is = ap (λ es. from_entries {R = name_cmp} es) (sym (ap (λ es. rows ++ es) is ∙ append-nil rows))
