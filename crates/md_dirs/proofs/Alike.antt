-- Rows that are told apart by the unique parts of their names: what look-ups find, and what is left as rows come, go and change.
use Rattle.std.proofs.Common.{ℕ, ◌≡◌, ◌+◌, ◌++◌, not, List, [], ◌∷◌, Option, Some, None, Bool, true, false, cond, ◌||◌, length, map, find, refl, sym, ap, subst, ◌∙◌, arith, slice_get, is_some, is_none, IsSome, swap_remove}
use Rattle.std.proofs.lemmas.List.Elements.{recursion_from_All, All-from_recursion}
use Rattle.std.proofs.lemmas.List.Folds.{find_at}
use Rattle.std.proofs.lemmas.List.Sorted.{IsPermutation-swap_remove, IsPermutation-map, All-permutation, Contains-permutation}
use Rattle.std.proofs.lemmas.Option.{slice_get-get_or}
use Rattle.std.proofs.lemmas.Map.{lookup-none, none_passes_from_lookup}
use Rattle.std.proofs.lemmas.Map.Entries.{place_from_lookup, lookup_from_place}
use Rattle.std.proofs.lemmas.Map.Keys.{IsDistinct-IsPermutation}
use Rattle.std.specs.Cmp.Lexicographic.{bytes_decides, nat_list_eq_equiv}
use Rattle.std.specs.List.{IsDistinct, AllByRecursion, list_any, position_or_len}
use Rattle.std.specs.List.Sorted.{IsPermutation}
use Rattle.std.specs.Option.{option_or}
use Rattle.std.specs.Map.{keys_of, lookup}
use Rattle.std.specs.Set.{swap_key}
use Rattle.std.specs.FinMap as finmap
use Rattle.std.specs.Ordering.{eq_by_cmp}
use Rattle.std.specs.FinMap.{from_entries, same_map, get-insert, get-remove}
use Rattle.md_name.specs.Names.{unique_of}
use Rattle.std.proofs.lemmas.Bool.{false_from_ne_true, not-true, not-false}
use Rattle.lists.proofs.Options.{or-none}
use Rattle.md_dirs.specs.Named.{Row, is_alike, alike_equiv}
use Rattle.md_dirs.specs.Index.{name_cmp, get_name}
use Rattle.md_dirs.proofs.NameRows.{same, name_total, name_exact, get-loose, put-loose, taken-loose, turned-test, get-within}

-- tests
pub equal : (x y : List ℕ) → same x y ≡ true → x ≡ y
equal x y h = (bytes_decides x y).0 h

pub tested : (x y : List ℕ) → x ≡ y → same x y ≡ true
tested x y h = (bytes_decides x y).1 h

pub turned : (x y : List ℕ) → same x y ≡ same y x
turned x y = nat_list_eq_equiv.symm x y

-- names that are one are alike
pub alike-name : (x e : Row) → same x.0 e.0 ≡ true → is_alike x e ≡ true
alike-name x e h = tested (unique_of x.0) (unique_of e.0) (ap unique_of (equal x.0 e.0 h))

pub unlike-name : (x e : Row) → is_alike x e ≡ false → same x.0 e.0 ≡ false
unlike-name x e h = false_from_ne_true _ (λ is. let both = alike-name x e is in cc)

-- look-ups in two lists
pub lookup-two : (test : List ℕ → Bool) (xs ys : List Row) → lookup test (xs ++ ys) ≡ option_or (lookup test xs) (lookup test ys)
lookup-two test [] ys = refl
lookup-two test (e ∷ xs) ys = elim (test e.0) as (λ b. cond b (Some e.1) (lookup test (xs ++ ys)) ≡ option_or (cond b (Some e.1) (lookup test xs)) (lookup test ys)) [
  | true ↦ refl
  | false ↦ lookup-two test xs ys
]

-- what a directory has at a name
pub get-both : (rows others : List Row) (q : List ℕ) → finmap.get (from_entries {R = name_cmp} (rows ++ others)) q ≡ option_or (get_name rows q) (get_name others q)
get-both rows others q = get-loose (rows ++ others) q ∙ lookup-two (same q) rows others

-- no row that is alike to one with the name has it
pub none-alike : (x : Row) (rows : List Row) → AllByRecursion (λ y. is_alike x y ≡ false) rows → get_name rows x.0 ≡ None
none-alike x [] h = refl
none-alike x (e ∷ rows) h = ap (λ b. cond b (Some e.1) (lookup (same x.0) rows)) (unlike-name x e h.0) ∙ none-alike x rows h.1

-- no row has the name, where the rows are not alike to one that is alike to it
pub none-beside : (x e : Row) (rows : List Row) → is_alike x e ≡ true → AllByRecursion (λ y. is_alike e y ≡ false) rows → get_name rows x.0 ≡ None
none-beside x e [] is h = refl
none-beside x e (y ∷ rows) is h =
    ap (λ b. cond b (Some y.1) (lookup (same x.0) rows)) (unlike-name x y (alike_equiv.congr x e y is ∙ h.0)) ∙ none-beside x e rows is h.1

pub none-found : (x : Row) (rows : List Row) → find (is_alike x) rows ≡ None → get_name rows x.0 ≡ None
none-found x [] h = refl
none-found x (e ∷ rows) h = elim (is_alike x e) as (λ b. is_alike x e ≡ b → cond b (Some e) (find (is_alike x) rows) ≡ None → get_name (e ∷ rows) x.0 ≡ None) [
  | true ↦ λ t is. cc
  | false ↦ λ t is. ap (λ b. cond b (Some e.1) (lookup (same x.0) rows)) (unlike-name x e t) ∙ none-found x rows is
] refl h

pub found-alike : (x : Row) (rows : List Row) (row : Row) → find (is_alike x) rows ≡ Some row → is_alike x row ≡ true
found-alike x [] row h = cc
found-alike x (e ∷ rows) row h = elim (is_alike x e) as (λ b. is_alike x e ≡ b → cond b (Some e) (find (is_alike x) rows) ≡ Some row → is_alike x row ≡ true) [
  | true ↦ λ t is. let here : e ≡ row = cc in ap (is_alike x) (sym here) ∙ t
  | false ↦ λ t is. found-alike x rows row is
] refl h

-- the row that is found has the name
pub found-name : (x : Row) (rows : List Row) (row : Row) → find (is_alike x) rows ≡ Some row → same row.0 x.0 ≡ true → get_name rows x.0 ≡ Some row.1
found-name x [] row h key = cc
found-name x (e ∷ rows) row h key = elim (is_alike x e) as (λ b. is_alike x e ≡ b → cond b (Some e) (find (is_alike x) rows) ≡ Some row → get_name (e ∷ rows) x.0 ≡ Some row.1) [
  | true ↦ λ t is.
      let here : e ≡ row = cc in
      let name : same x.0 e.0 ≡ true = turned x.0 e.0 ∙ ap (λ (r : Row). same r.0 x.0) here ∙ key in
      ap (λ b. cond b (Some e.1) (lookup (same x.0) rows)) name ∙ ap (λ (r : Row). Some r.1) here
  | false ↦ λ t is. ap (λ b. cond b (Some e.1) (lookup (same x.0) rows)) (unlike-name x e t) ∙ found-name x rows row is key
] refl h

-- the row that is found has another name
pub found-other : (x : Row) (rows : List Row) (row : Row) → IsDistinct is_alike rows → find (is_alike x) rows ≡ Some row → same row.0 x.0 ≡ false →
    get_name rows x.0 ≡ None
unfolding IsDistinct
found-other x [] row d h key = refl
found-other x (e ∷ rows) row d h key = elim (is_alike x e) as (λ b. is_alike x e ≡ b → cond b (Some e) (find (is_alike x) rows) ≡ Some row → get_name (e ∷ rows) x.0 ≡ None) [
  | true ↦ λ t is.
      let here : e ≡ row = cc in
      let name : same x.0 e.0 ≡ false = turned x.0 e.0 ∙ ap (λ (r : Row). same r.0 x.0) here ∙ key in
      ap (λ b. cond b (Some e.1) (lookup (same x.0) rows)) name ∙ none-beside x e rows t d.0
  | false ↦ λ t is. ap (λ b. cond b (Some e.1) (lookup (same x.0) rows)) (unlike-name x e t) ∙ found-other x rows row d.1 is key
] refl h

-- rows that aren't alike have names that differ
differ-from : (x : Row) (rows : List Row) → AllByRecursion (λ y. is_alike x y ≡ false) rows → AllByRecursion (λ y. same x.0 y ≡ false) (keys_of rows)
differ-from x [] h = tt
differ-from x (e ∷ rows) h = (unlike-name x e h.0, differ-from x rows h.1)

pub differ : (rows : List Row) → IsDistinct is_alike rows → IsDistinct same (keys_of rows)
unfolding IsDistinct
differ [] d = tt
differ (e ∷ rows) d = (differ-from e rows d.0, differ rows d.1)

-- rows and others, all of different names
absent-name : (x : List ℕ) (e : Row) (others : List Row) → get_name (e ∷ others) x ≡ None → (same x e.0 ≡ false) × (get_name others x ≡ None)
absent-name x e others h = elim (same x e.0) as (λ b. cond b (Some e.1) (lookup (same x) others) ≡ None → (b ≡ false) × (get_name others x ≡ None)) [
  | true ↦ λ is. cc
  | false ↦ λ is. (refl, is)
] h

absent-names : (x : List ℕ) (others : List Row) → get_name others x ≡ None → AllByRecursion (λ y. same x y ≡ false) (keys_of others)
absent-names x [] h = tt
absent-names x (e ∷ others) h = let parts = absent-name x e others h in (parts.0, absent-names x others parts.1)

all-two : (x : List ℕ) (rows others : List Row) → AllByRecursion (λ y. same x y ≡ false) (keys_of rows) → AllByRecursion (λ y. same x y ≡ false) (keys_of others)
    → AllByRecursion (λ y. same x y ≡ false) (keys_of (rows ++ others))
all-two x [] others h k = k
all-two x (e ∷ rows) others h k = (h.0, all-two x rows others h.1 k)

names-two : (rows others : List Row) → IsDistinct same (keys_of rows) → IsDistinct same (keys_of others)
    → ((name : List ℕ) → IsSome (get_name rows name) → get_name others name ≡ None) → IsDistinct same (keys_of (rows ++ others))
unfolding IsDistinct
names-two [] others d k apart = k
names-two (e ∷ rows) others d k apart = (
  all-two e.0 rows others d.0 (absent-names e.0 others (apart e.0
      (subst (λ b. IsSome (cond b (Some e.1) (lookup (same e.0) rows))) (sym (tested e.0 e.0 refl)) refl))),
  names-two rows others d.1 k (λ name some. apart name (elim (same name e.0) as (λ b. IsSome (cond b (Some e.1) (lookup (same name) rows))) [
    | true ↦ refl
    | false ↦ some
  ])),
)

either-none : (a b : Option ℕ) → (IsSome b → a ≡ None) → IsSome a → b ≡ None
either-none a None h some = refl
either-none a (Some y) h some = let none : a ≡ None = h refl in cc

pub distinct-all : (rows others : List Row) → IsDistinct is_alike rows → IsDistinct same (keys_of others) →
    ((name : List ℕ) → IsSome (get_name others name) → get_name rows name ≡ None) → IsDistinct same (keys_of (rows ++ others))
distinct-all rows others d k apart = names-two rows others (differ rows d) k (λ name some. either-none (get_name rows name) (get_name others name) (apart name) some)

-- a name that comes or goes among the others
others-step : (t : Bool) (w a b n : Option ℕ) → n ≡ cond t w b → (t ≡ true → a ≡ None) → option_or a n ≡ cond t w (option_or a b)
others-step true w a b n is none = ap (option_or a) is ∙ ap (λ o. option_or o w) (none refl)
others-step false w a b n is none = ap (option_or a) is

-- the same among the rows
rows-step : (t : Bool) (w a b n : Option ℕ) → n ≡ cond t w a → (t ≡ true → option_or w b ≡ w) → option_or n b ≡ cond t w (option_or a b)
rows-step true w a b n is none = ap (λ o. option_or o b) is ∙ none refl
rows-step false w a b n is none = ap (λ o. option_or o b) is

-- what look-ups find where one name has come or gone
abbrev pub Changed : List Row → List Row → List ℕ → Option ℕ → Type 0
Changed old new k w = (q : List ℕ) → get_name new q ≡ cond (same k q) w (get_name old q)

abbrev pub AreApart : List Row → List Row → Type 0
AreApart rows others = (name : List ℕ) → IsSome (get_name others name) → get_name rows name ≡ None

pub changed-others : (rows others new : List Row) (k : List ℕ) (w : Option ℕ) → get_name rows k ≡ None → Changed others new k w → Changed (rows ++ others) (rows ++ new) k w
changed-others rows others new k w none is q =
    lookup-two (same q) rows new
    ∙ others-step (same k q) w (get_name rows q) (get_name others q) (get_name new q) (is q) (λ t. ap (get_name rows) (sym (equal k q t)) ∙ none)
    ∙ ap (cond (same k q) w) (sym (lookup-two (same q) rows others))

pub changed-rows : (rows others new : List Row) (k : List ℕ) (w : Option ℕ) → option_or w (get_name others k) ≡ w → Changed rows new k w → Changed (rows ++ others) (new ++ others) k w
changed-rows rows others new k w none is q =
    lookup-two (same q) new others
    ∙ rows-step (same k q) w (get_name rows q) (get_name others q) (get_name new q) (is q)
    (λ t. ap (λ x. option_or w (get_name others x)) (sym (equal k q t)) ∙ none)
    ∙ ap (cond (same k q) w) (sym (lookup-two (same q) rows others))

pub apart-others : (rows others new : List Row) (k : List ℕ) (w : Option ℕ) → get_name rows k ≡ None → Changed others new k w → AreApart rows others → AreApart rows new
apart-others rows others new k w none is apart q some =
    elim (same k q) as (λ b. same k q ≡ b → get_name new q ≡ cond b w (get_name others q) → get_name rows q ≡ None) [
      | true ↦ λ t h. ap (get_name rows) (sym (equal k q t)) ∙ none
      | false ↦ λ t h. apart q (subst (λ (o : Option ℕ). IsSome o) h some)
    ] refl (is q)

pub apart-rows : (rows others new : List Row) (k : List ℕ) (w : Option ℕ) → get_name others k ≡ None → Changed rows new k w → AreApart rows others → AreApart new others
apart-rows rows others new k w none is apart q some =
    elim (same k q) as (λ b. same k q ≡ b → get_name new q ≡ cond b w (get_name rows q) → get_name new q ≡ None) [
      | true ↦ λ t h. let gone : get_name others q ≡ None = ap (get_name others) (sym (equal k q t)) ∙ none in cc
      | false ↦ λ t h. h ∙ apart q some
    ] refl (is q)

-- a row that is alike to none comes last
unlisted : (x : Row) (rows : List Row) → list_any (is_alike x) rows ≡ false → AllByRecursion (λ y. is_alike x y ≡ false) rows
unlisted x [] h = tt
unlisted x (e ∷ rows) h = elim (is_alike x e) as (λ b. is_alike x e ≡ b → (b || list_any (is_alike x) rows) ≡ false → AllByRecursion (λ y. is_alike x y ≡ false) (e ∷ rows)) [
  | true ↦ λ t is. cc
  | false ↦ λ t is. (t, unlisted x rows is)
] refl h

pub none-listed : (x : Row) (rows : List Row) → list_any (is_alike x) rows ≡ false → get_name rows x.0 ≡ None
none-listed x rows h = none-alike x rows (unlisted x rows h)

pub pushed : (rows : List Row) (x : Row) → get_name rows x.0 ≡ None → Changed rows (rows ++ x ∷ []) x.0 (Some x.1)
pushed rows x none q =
    lookup-two (same q) rows (x ∷ [])
    ∙ elim (same x.0 q) as (λ b. same x.0 q ≡ b → option_or (get_name rows q) (cond (same q x.0) (Some x.1) None) ≡ cond b (Some x.1) (get_name rows q)) [
      | true ↦ λ t.
          (λ i. option_or ((ap (get_name rows) (sym (equal x.0 q t)) ∙ none) i) (cond ((turned q x.0 ∙ t) i) (Some x.1) None))
      | false ↦ λ t. ap (λ b. option_or (get_name rows q) (cond b (Some x.1) None)) (turned q x.0 ∙ t) ∙ or-none (get_name rows q)
    ] refl

-- a row goes, and the last takes its place
permuted : (es fs : List Row) → IsPermutation es fs → IsDistinct same (keys_of fs) → (q : List ℕ) → get_name fs q ≡ get_name es q
permuted es fs moves distinct q = elim (get_name es q) as (λ r. get_name es q ≡ r → get_name fs q ≡ r) [
  | None ↦ λ is. lookup-none (same q) fs (recursion_from_All (λ p. same q p.0 ≡ false) fs (All-permutation (λ p. same q p.0 ≡ false) es fs moves
      (All-from_recursion (λ p. same q p.0 ≡ false) es (none_passes_from_lookup (same q) es is))))
  | Some v ↦ λ is.
      let p = place_from_lookup (same q) es v is in
      let row : Row = (p.1, v) in
      let at = get-within es p.0 row p.2 in
      let there = Contains-permutation es fs row moves (p.0, at.0, at.1) in
      let read : slice_get fs there.0 ≡ Some row = slice_get-get_or fs there.0 row there.1 ∙ ap Some there.2 in
      ap (get_name fs) (equal q p.1 p.3) ∙ lookup_from_place nat_list_eq_equiv fs there.0 p.1 v distinct read
] refl

-- no row has a name that differs from all names
pub none-of : (x : List ℕ) (es : List Row) → AllByRecursion (λ y. same x y ≡ false) (keys_of es) → get_name es x ≡ None
none-of x [] h = refl
none-of x (e ∷ es) h = ap (λ b. cond b (Some e.1) (lookup (same x) es)) h.0 ∙ none-of x es h.1

pub swapped-out : (rows : List Row) (i : ℕ) (k : List ℕ) (v : ℕ) → IsDistinct is_alike rows → slice_get rows i ≡ Some (k, v) →
    Changed rows (swap_remove rows i (k, v)) k None
unfolding IsDistinct
swapped-out rows i k v d at q =
    let row : Row = (k, v) in
    let left = swap_remove rows i row in
    let there = get-within rows i row at in
    let moves = IsPermutation-swap_remove rows i row there.0 (sym there.1) in
    let distinct = IsDistinct-IsPermutation same turned (keys_of rows) (k ∷ keys_of left) (IsPermutation-map (λ e. e.0) rows (row ∷ left) moves) (differ rows d) in
    let found = permuted rows (row ∷ left) moves distinct q in
    elim (same k q) as (λ b. same k q ≡ b → get_name left q ≡ cond b None (get_name rows q)) [
      | true ↦ λ t. ap (get_name left) (sym (equal k q t)) ∙ none-of k left distinct.0
      | false ↦ λ t. ap (λ b. cond b (Some v) (get_name left q)) (sym (turned q k ∙ t)) ∙ found
    ] refl

-- a row in the place of that of a name
abbrev pub moved : List ℕ → Row → Row → Row
moved o x e = cond (same o e.0) x e

unmoved : (o : List ℕ) (x : Row) (rows : List Row) → AllByRecursion (λ y. same o y.0 ≡ false) rows → map (moved o x) rows ≡ rows
unmoved o x [] h = refl
unmoved o x (e ∷ rows) h = (λ i. cond (h.0 i) x e ∷ unmoved o x rows h.1 i)

unnamed : (o : List ℕ) (e : Row) (rows : List Row) → e.0 ≡ o → AllByRecursion (λ y. is_alike e y ≡ false) rows → AllByRecursion (λ y. same o y.0 ≡ false) rows
unnamed o e [] key h = tt
unnamed o e (y ∷ rows) key h = (ap (λ w. same w y.0) (sym key) ∙ unlike-name e y h.0, unnamed o e rows key h.1)

pub swap-is : (x : Row) (rows : List Row) (row : Row) → IsDistinct is_alike rows → find (is_alike x) rows ≡ Some row →
    swap_key (is_alike x) rows x ≡ map (moved row.0 x) rows
unfolding IsDistinct
swap-is x [] row d h = refl
swap-is x (e ∷ rows) row d h = elim (is_alike x e) as (λ b. is_alike x e ≡ b → cond b (Some e) (find (is_alike x) rows) ≡ Some row
    → cond b (x ∷ rows) (e ∷ swap_key (is_alike x) rows x) ≡ map (moved row.0 x) (e ∷ rows)) [
      | true ↦ λ t is.
          let here : e ≡ row = cc in
          let name = ap (λ (r : Row). r.0) here in
          (λ i. cond (sym (tested row.0 e.0 (sym name)) i) x e ∷ sym (unmoved row.0 x rows (unnamed row.0 e rows name d.0)) i)
      | false ↦ λ t is.
          let other : same row.0 e.0 ≡ false = false_from_ne_true _ (λ named.
          let is_like : is_alike x e ≡ true = ap (λ w. same (unique_of x.0) (unique_of w)) (sym (equal row.0 e.0 named)) ∙ found-alike x rows row is in cc) in
          (λ i. cond (sym other i) x e ∷ swap-is x rows row d.1 is i)
    ] refl h

-- other names than those two have what they had
moved-else : (o k : List ℕ) (v : ℕ) (es : List Row) (q : List ℕ) → same q k ≡ false → get_name (map (moved o (k, v)) es) q ≡ cond (same o q) None (get_name es q)
moved-else o k v [] q differs = elim (same o q) as (λ b. ◌≡◌ {A = Option ℕ} None (cond b None None)) [ true ↦ refl | false ↦ refl ]
moved-else o k v (e ∷ es) q differs =
    elim (same o e.0) as (λ b. same o e.0 ≡ b → get_name (cond b (k, v) e ∷ map (moved o (k, v)) es) q ≡ cond (same o q) None (get_name (e ∷ es) q)) [
      | true ↦ λ t.
          ap (λ b. cond b (Some v) (get_name (map (moved o (k, v)) es) q)) differs ∙ moved-else o k v es q differs
          ∙ elim (same o q) as (λ b. same o q ≡ b → cond b None (get_name es q) ≡ cond b None (get_name (e ∷ es) q)) [
            | true ↦ λ u. refl
            | false ↦ λ u.
                let other : same q e.0 ≡ false = ap (same q) (sym (equal o e.0 t)) ∙ turned q o ∙ u in
                (λ i. cond (sym other i) (Some e.1) (get_name es q))
          ] refl
      | false ↦ λ t.
          elim (same q e.0) as (λ b. same q e.0 ≡ b →
          cond b (Some e.1) (get_name (map (moved o (k, v)) es) q) ≡ cond (same o q) None (cond b (Some e.1) (get_name es q))) [
            | true ↦ λ u. let other : same o q ≡ false = ap (same o) (equal q e.0 u) ∙ t in (λ i. cond (sym other i) None (Some e.1))
            | false ↦ λ u. moved-else o k v es q differs
          ] refl
    ] refl

moved-there : (o : List ℕ) (v : ℕ) (es : List Row) (w : ℕ) → get_name es o ≡ Some w → get_name (map (moved o (o, v)) es) o ≡ Some v
moved-there o v [] w some = cc
moved-there o v (e ∷ es) w some =
    elim (same o e.0) as (λ b. same o e.0 ≡ b → cond b (Some e.1) (get_name es o) ≡ Some w → get_name (cond b (o, v) e ∷ map (moved o (o, v)) es) o ≡ Some v) [
      | true ↦ λ t is. ap (λ b. cond b (Some v) (get_name (map (moved o (o, v)) es) o)) (tested o o refl)
      | false ↦ λ t is. ap (λ b. cond b (Some e.1) (get_name (map (moved o (o, v)) es) o)) t ∙ moved-there o v es w is
    ] refl some

-- another number for the name
pub moved-same : (o : List ℕ) (v : ℕ) (es : List Row) (w : ℕ) → get_name es o ≡ Some w → Changed es (map (moved o (o, v)) es) o (Some v)
moved-same o v es w some q = elim (same o q) as (λ b. same o q ≡ b → get_name (map (moved o (o, v)) es) q ≡ cond b (Some v) (get_name es q)) [
  | true ↦ λ t. ap (get_name (map (moved o (o, v)) es)) (sym (equal o q t)) ∙ moved-there o v es w some
  | false ↦ λ t. moved-else o o v es q (turned q o ∙ t) ∙ ap (λ b. cond b None (get_name es q)) t
] refl

-- the name and the number that take a name's place
moved-new : (o k : List ℕ) (v : ℕ) (es : List Row) (w : ℕ) → get_name es o ≡ Some w → get_name es k ≡ None → get_name (map (moved o (k, v)) es) k ≡ Some v
moved-new o k v [] w some none = cc
moved-new o k v (e ∷ es) w some none =
    let parts = absent-name k e es none in
    elim (same o e.0) as (λ b. cond b (Some e.1) (get_name es o) ≡ Some w → get_name (cond b (k, v) e ∷ map (moved o (k, v)) es) k ≡ Some v) [
      | true ↦ λ is. ap (λ b. cond b (Some v) (get_name (map (moved o (k, v)) es) k)) (tested k k refl)
      | false ↦ λ is. ap (λ b. cond b (Some e.1) (get_name (map (moved o (k, v)) es) k)) parts.0 ∙ moved-new o k v es w is parts.1
    ] some

-- what look-ups find where one name has gone and another has come
abbrev pub Renamed : List Row → List Row → List ℕ → List ℕ → ℕ → Type 0
Renamed old new o k v = (q : List ℕ) → get_name new q ≡ cond (same o q) None (cond (same k q) (Some v) (get_name old q))

pub moved-names : (o k : List ℕ) (v : ℕ) (es : List Row) (w : ℕ) → get_name es o ≡ Some w → get_name es k ≡ None → Renamed es (map (moved o (k, v)) es) o k v
moved-names o k v es w some none q =
    elim (same k q) as (λ b. same k q ≡ b → get_name (map (moved o (k, v)) es) q ≡ cond (same o q) None (cond b (Some v) (get_name es q))) [
      | true ↦ λ t.
          let name = equal k q t in
          let other : same o q ≡ false = false_from_ne_true _ (λ is. let one : get_name es o ≡ None = ap (get_name es) (equal o q is ∙ sym name) ∙ none in cc) in
          ap (get_name (map (moved o (k, v)) es)) (sym name) ∙ moved-new o k v es w some none ∙ (λ i. cond (sym other i) None (Some v))
      | false ↦ λ t. moved-else o k v es q (turned q k ∙ t)
    ] refl

pub renamed-rows : (rows others new : List Row) (o k : List ℕ) (v : ℕ) → get_name others o ≡ None → Renamed rows new o k v → Renamed (rows ++ others) (new ++ others) o k v
renamed-rows rows others new o k v none is q =
    lookup-two (same q) new others ∙ ap (λ a. option_or a (get_name others q)) (is q)
    ∙ elim (same o q) as (λ b. same o q ≡ b →
    option_or (cond b None (cond (same k q) (Some v) (get_name rows q))) (get_name others q) ≡ cond b None (cond (same k q) (Some v) (get_name (rows ++ others) q))) [
      | true ↦ λ t. ap (get_name others) (sym (equal o q t)) ∙ none
      | false ↦ λ t.
          elim (same k q) as (λ b. option_or (cond b (Some v) (get_name rows q)) (get_name others q) ≡ cond b (Some v) (get_name (rows ++ others) q)) [
            | true ↦ refl
            | false ↦ sym (lookup-two (same q) rows others)
          ]
    ] refl

pub renamed-view : (es fs : List Row) (o k : List ℕ) (v : ℕ) → Renamed es fs o k v
    → from_entries {R = name_cmp} fs ≡ finmap.remove (finmap.insert (from_entries es) k v) o
renamed-view es fs o k v is = same_map name_total name_exact _ _ (λ q.
    get-loose fs q
    ∙ is q
    ∙ (λ j. cond (turned-test o q j) None (cond (turned-test k q j) (Some v) (sym (get-loose es q) j)))
    ∙ sym (get-remove name_total (finmap.insert (from_entries es) k v) o q ∙
    ap (λ x. cond (eq_by_cmp name_cmp q o) None x) (get-insert name_total (from_entries es) k v q)))

-- the rows of other names are not alike to the row that is found
pub unlike-rest : (x : Row) (rows : List Row) (row : Row) → IsDistinct is_alike rows → find (is_alike x) rows ≡ Some row →
    AllByRecursion (λ (e : Row). same row.0 e.0 ≡ false → is_alike x e ≡ false) rows
unfolding IsDistinct
unlike-rest x [] row d h = tt
unlike-rest x (e ∷ rows) row d h = elim (is_alike x e) as (λ b. is_alike x e ≡ b → cond b (Some e) (find (is_alike x) rows) ≡ Some row
    → AllByRecursion (λ (y : Row). same row.0 y.0 ≡ false → is_alike x y ≡ false) (e ∷ rows)) [
      | true ↦ λ t is.
          let here : e ≡ row = cc in
          ((λ differs. let one : same row.0 e.0 ≡ true = tested row.0 e.0 (ap (λ (r : Row). r.0) (sym here)) in cc), others x e rows t d.0)
      | false ↦ λ t is. ((λ differs. t), unlike-rest x rows row d.1 is)
    ] refl h
  where
    others : (x e : Row) (rows : List Row) → is_alike x e ≡ true → AllByRecursion (λ y. is_alike e y ≡ false) rows →
        AllByRecursion (λ (y : Row). same row.0 y.0 ≡ false → is_alike x y ≡ false) rows
    others x e [] t h = tt
    others x e (y ∷ rows) t h = ((λ differs. alike_equiv.congr x e y t ∙ h.0), others x e rows t h.1)

-- the row of a name is the one that is found for another name of its unique part
pub found-row : (x : Row) (rows : List Row) (o : List ℕ) (w : ℕ) → IsDistinct is_alike rows → is_alike x (o, 0) ≡ true → get_name rows o ≡ Some w →
    (row : Row) × (find (is_alike x) rows ≡ Some row) × (row.0 ≡ o)
unfolding IsDistinct
found-row x [] o w d like some = cc
found-row x (e ∷ rows) o w d like some = elim (is_alike x e) as (λ b. is_alike x e ≡ b →
    (row : Row) × (cond b (Some e) (find (is_alike x) rows) ≡ Some row) × (row.0 ≡ o)) [
      | true ↦ λ t. (
        e,
        refl,
        sym (equal o e.0 (elim (same o e.0) as (λ b. cond b (Some e.1) (get_name rows o) ≡ Some w → b ≡ true) [
          | true ↦ λ is. refl
          | false ↦ λ is.
              let beside : is_alike (o, 0) e ≡ true = sym (alike_equiv.congr x (o, 0) e like) ∙ t in
              let none : get_name rows o ≡ None = none-beside (o, 0) e rows beside d.0 in cc
        ] some)),
      )
      | false ↦ λ t.
          let other : same o e.0 ≡ false = false_from_ne_true _ (λ is.
          let is_like : is_alike x e ≡ true = ap (λ u. same (unique_of x.0) (unique_of u)) (sym (equal o e.0 is)) ∙ like in cc) in
          found-row x rows o w d.1 like (ap (λ b. cond b (Some e.1) (get_name rows o)) (sym other) ∙ some)
    ] refl

pub found-any : (x : Row) (rows : List Row) (row : Row) → find (is_alike x) rows ≡ Some row → list_any (is_alike x) rows ≡ true
found-any x [] row h = cc
found-any x (e ∷ rows) row h = elim (is_alike x e) as (λ b. cond b (Some e) (find (is_alike x) rows) ≡ Some row → (b || list_any (is_alike x) rows) ≡ true) [
  | true ↦ λ is. refl
  | false ↦ λ is. found-any x rows row is
] h

pub other-none : (rows others : List Row) (k : List ℕ) (v : ℕ) → AreApart rows others → get_name rows k ≡ Some v → get_name others k ≡ None
other-none rows others k v apart some = elim (get_name others k) as (λ o. get_name others k ≡ o → o ≡ None) [
  | None ↦ λ t. refl
  | Some w ↦ λ t. let none : get_name rows k ≡ None = apart k (ap is_some t) in cc
] refl

-- a row that goes from the table
pub taken-row : (rows others new : List Row) (i : ℕ) (k : List ℕ) (v : ℕ) → IsDistinct is_alike rows → slice_get rows i ≡ Some (k, v)
    → get_name rows k ≡ Some v → new ≡ swap_remove rows i (k, v) → AreApart rows others →
    (from_entries {R = name_cmp} (new ++ others) ≡ finmap.remove (from_entries (rows ++ others)) k) × AreApart new others
taken-row rows others new i k v d at some made apart =
    let none = other-none rows others k v apart some in
    let changed : Changed rows new k None = (λ q. ap (λ es. get_name es q) made ∙ swapped-out rows i k v d at q) in (
      taken-loose (rows ++ others) (new ++ others) k (changed-rows rows others new k None none changed),
      apart-rows rows others new k None none changed apart,
    )

pub none-from : (o : Option ℕ) → is_some o ≡ false → o ≡ None
none-from None h = refl
none-from (Some x) h = cc

-- a name that is put among the others
pub put-others : (rows others new : List Row) (k : List ℕ) (v : ℕ) → get_name rows k ≡ None → Changed others new k (Some v) → AreApart rows others →
    (from_entries {R = name_cmp} (rows ++ new) ≡ finmap.insert (from_entries (rows ++ others)) k v) × AreApart rows new
put-others rows others new k v none changed apart = (
  put-loose (rows ++ others) (rows ++ new) k v (changed-others rows others new k (Some v) none changed),
  apart-others rows others new k (Some v) none changed apart,
)

-- a row that comes last in the table
pub put-new : (rows others new : List Row) (x : Row) → get_name others x.0 ≡ None → (new ≡ rows ++ x ∷ []) × (list_any (is_alike x) rows ≡ false) →
    AreApart rows others → (from_entries {R = name_cmp} (new ++ others) ≡ finmap.insert (from_entries (rows ++ others)) x.0 x.1) × AreApart new others
put-new rows others new x none added apart =
    let changed : Changed rows new x.0 (Some x.1) = (λ q. ap (λ es. get_name es q) added.0 ∙ pushed rows x (none-listed x rows added.1) q) in (
      put-loose (rows ++ others) (new ++ others) x.0 x.1 (changed-rows rows others new x.0 (Some x.1) refl changed),
      apart-rows rows others new x.0 (Some x.1) none changed apart,
    )

-- the row that stands where one that is alike was found
pub found-there : (x : Row) (rows new : List Row) (at : ℕ) (row : Row) → (new ≡ rows) × ((e : Row) × (slice_get rows at ≡ Some e) × (find (is_alike x) rows ≡ Some e))
    → slice_get new at ≡ Some row → find (is_alike x) new ≡ Some row
found-there x rows new at row there read = ap (find (is_alike x)) there.0 ∙ there.1.2 ∙ sym there.1.1 ∙ ap (λ es. slice_get es at) (sym there.0) ∙ read

-- the rows with one in the place of one that is alike, or last
abbrev pub replaced : List Row → Row → List Row
replaced rows x = cond (list_any (is_alike x) rows) (swap_key (is_alike x) rows x) (rows ++ x ∷ [])

pub replaced-is : (x : Row) (rows : List Row) (row : Row) → IsDistinct is_alike rows → find (is_alike x) rows ≡ Some row → replaced rows x ≡ map (moved row.0 x) rows
replaced-is x rows row d found =
    ap (λ b. cond b (swap_key (is_alike x) rows x) (rows ++ x ∷ [])) (found-any x rows row found) ∙ swap-is x rows row d found

-- a row that takes the place of that of its name
pub put-there : (rows others new : List Row) (x row : Row) → IsDistinct is_alike rows → find (is_alike x) rows ≡ Some row → same row.0 x.0 ≡ true
    → new ≡ replaced rows x → AreApart rows others →
    (from_entries {R = name_cmp} (new ++ others) ≡ finmap.insert (from_entries (rows ++ others)) x.0 x.1) × AreApart new others
put-there rows others new x row d found key made apart =
    let some = found-name x rows row found key in
    let is : new ≡ map (moved x.0 x) rows = made ∙ replaced-is x rows row d found ∙ ap (λ o. map (moved o x) rows) (equal row.0 x.0 key) in
    let changed : Changed rows new x.0 (Some x.1) = (λ q. ap (λ es. get_name es q) is ∙ moved-same x.0 x.1 rows row.1 some q) in (
      put-loose (rows ++ others) (new ++ others) x.0 x.1 (changed-rows rows others new x.0 (Some x.1) refl changed),
      apart-rows rows others new x.0 (Some x.1) (other-none rows others x.0 row.1 apart some) changed apart,
    )

-- what is inserted into a set of rows
any-found : (x : Row) (rows : List Row) → list_any (is_alike x) rows ≡ true → (e : Row) × (find (is_alike x) rows ≡ Some e)
any-found x [] h = cc
any-found x (e ∷ rows) h = elim (is_alike x e) as (λ b. (b || list_any (is_alike x) rows) ≡ true → (y : Row) × (cond b (Some e) (find (is_alike x) rows) ≡ Some y)) [
  | true ↦ λ is. (e, refl)
  | false ↦ λ is. any-found x rows is
] h

all-passed : (x : Row) (rows : List Row) → list_any (is_alike x) rows ≡ false → position_or_len (is_alike x) rows ≡ length rows
all-passed x [] h = refl
all-passed x (e ∷ rows) h = elim (is_alike x e) as (λ b. (b || list_any (is_alike x) rows) ≡ false → cond (not b) (1 + position_or_len (is_alike x) rows) 0 ≡ length (e ∷ rows)) [
  | true ↦ λ is. cc
  | false ↦ λ is. let rest = all-passed x rows is in omega (arith, rest)
] h

abbrev pub inserted : List Row → Row → List Row
inserted rows x = cond (list_any (is_alike x) rows) rows (rows ++ x ∷ [])

pub insert-there : (x : Row) (rows new : List Row) (at : ℕ) (is_new : Bool) → is_new ≡ not (list_any (is_alike x) rows) → is_new ≡ false → new ≡ inserted rows x
    → at ≡ position_or_len (is_alike x) rows → (new ≡ rows) × ((e : Row) × (slice_get rows at ≡ Some e) × (find (is_alike x) rows ≡ Some e))
insert-there x rows new at is_new told old made place =
    let any : list_any (is_alike x) rows ≡ true = not-false (list_any (is_alike x) rows) (sym told ∙ old) in
    let e = any-found x rows any in (
      made ∙ ap (λ b. cond b rows (rows ++ x ∷ [])) any,
      (e.0, ap (slice_get rows) place ∙ sym (find_at (is_alike x) rows) ∙ e.1, e.1),
    )

pub insert-new : (x : Row) (rows new : List Row) (at : ℕ) (is_new : Bool) → is_new ≡ not (list_any (is_alike x) rows) → is_new ≡ true → new ≡ inserted rows x
    → at ≡ position_or_len (is_alike x) rows → (new ≡ rows ++ x ∷ []) × (at ≡ length rows)
insert-new x rows new at is_new told old made place =
    let none : list_any (is_alike x) rows ≡ false = not-true (list_any (is_alike x) rows) (sym told ∙ old) in
    (made ∙ ap (λ b. cond b rows (rows ++ x ∷ [])) none, place ∙ all-passed x rows none)

-- a row that gets another name of its unique part
pub renamed-row : (rows new : List Row) (o k : List ℕ) (v w : ℕ) → IsDistinct is_alike rows → same (unique_of o) (unique_of k) ≡ true
    → get_name rows o ≡ Some w → get_name rows k ≡ None → new ≡ replaced rows (k, v) →
    (row : Row) × (find (is_alike (k, v)) rows ≡ Some row) × (row.0 ≡ o) × (new ≡ map (moved o (k, v)) rows) × Renamed rows new o k v
renamed-row rows new o k v w d one some none made =
    let found = found-row (k, v) rows o w d (turned (unique_of k) (unique_of o) ∙ one) some in
    let is : new ≡ map (moved o (k, v)) rows = made ∙ replaced-is (k, v) rows found.0 d found.1 ∙ ap (λ n. map (moved n (k, v)) rows) found.2 in
    (found.0, found.1, found.2, is, λ q. ap (λ es. get_name es q) is ∙ moved-names o k v rows w some none q)

-- what a row at a position says of its name
pub at-place : (rows : List Row) (i : ℕ) (k : List ℕ) (v : ℕ) → IsDistinct is_alike rows → slice_get rows i ≡ Some (k, v) → get_name rows k ≡ Some v
at-place rows i k v d at = lookup_from_place nat_list_eq_equiv rows i k v (differ rows d) at

-- where a name is in the table, no other name of its unique part is
pub none-other : (rows : List Row) (o k : List ℕ) (w : ℕ) → IsDistinct is_alike rows → same (unique_of o) (unique_of k) ≡ true → get_name rows o ≡ Some w
    → same o k ≡ false → get_name rows k ≡ None
none-other rows o k w d one some differs =
    let found = found-row (k, 0) rows o w d (turned (unique_of k) (unique_of o) ∙ one) some in
    found-other (k, 0) rows found.0 d found.1 (ap (λ n. same n k) found.2 ∙ differs)

-- a row at a position that gets another name of its unique part
pub renamed-at : (rows new : List Row) (i : ℕ) (o k : List ℕ) (v w : ℕ) → IsDistinct is_alike rows → slice_get rows i ≡ Some (o, w)
    → same (unique_of o) (unique_of k) ≡ true → same o k ≡ false → new ≡ replaced rows (k, v) →
    (get_name rows o ≡ Some w) × (get_name rows k ≡ None) × Renamed rows new o k v
renamed-at rows new i o k v w d at one differs made =
    let some = at-place rows i o w d at in
    let none = none-other rows o k w d one some differs in
    (some, none, (renamed-row rows new o k v w d one some none made).4)

pub other-missing : (rows others : List Row) (k : List ℕ) → AreApart rows others → IsSome (get_name rows k) → get_name others k ≡ None
other-missing rows others k apart some = either-none (get_name rows k) (get_name others k) (apart k) some

-- whether a name is there
pub is-beside : (rows others : List Row) (k : List ℕ) → is_some (get_name others k) ≡ true → false ≡ is_none (finmap.get (from_entries {R = name_cmp} (rows ++ others)) k)
is-beside rows others k some = sym (ap is_none (get-both rows others k) ∙ either (get_name rows k) (get_name others k) some)
  where
    either : (a b : Option ℕ) → is_some b ≡ true → is_none (option_or a b) ≡ false
    either None None h = sym h
    either None (Some y) h = refl
    either (Some x) b h = refl

pub is-in-table : (rows others : List Row) (k : List ℕ) (v : ℕ) → get_name rows k ≡ Some v → false ≡ is_none (finmap.get (from_entries {R = name_cmp} (rows ++ others)) k)
is-in-table rows others k v some = sym (ap is_none (get-both rows others k) ∙ ap (λ o. is_none (option_or o (get_name others k))) some)

pub is-nowhere : (rows others : List Row) (k : List ℕ) → get_name rows k ≡ None → get_name others k ≡ None → true ≡ is_none (finmap.get (from_entries {R = name_cmp} (rows ++ others)) k)
is-nowhere rows others k none none' = sym (ap is_none (get-both rows others k) ∙ (λ i. is_none (option_or (none i) (none' i))))
