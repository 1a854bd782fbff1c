-- The first name of a message among names in order.
use Rattle.std.proofs.Common.{ℕ, zero, suc, ◌≡◌, ◌≢◌, ◌+◌, ◌<◌, ◌≤◌, ◌==◌, ◌&&◌, List, [], ◌∷◌, Option, Some, None, Bool, true, false, cond, T, length, nat_eq, nat_lt, refl, sym, ap, subst, ◌∙◌, arith, slice_get, drop, take, map, find as first_with}
use Rattle.std.proofs.lemmas.Bool.Decides.{nat_tests}
use Rattle.std.specs.List.{starts_with}
use Rattle.std.specs.Cmp.Lexicographic.{pointwise}
use Rattle.std.proofs.lemmas.Cmp.{tied_itself}
use Rattle.std.specs.Option.{option_and_then, option_map}
use Rattle.std.specs.declared.cmp.Ordering.{Ordering}
use Rattle.std.specs.declared.cmp.Ordering.TheVariants.{Less, Equal, Greater}
use Rattle.std.specs.Ordering.{is_lt, is_eq, eq_by_cmp, nat_cmp, ordering_then, ordering_reverse}
use Rattle.std.specs.FinMap.{find, is_sorted}
use Rattle.std.specs.FinMap.Entries.{below_all}
use Rattle.md_dirs.specs.Rows.{is_named, ends_unique, row_named, row_by}
use Rattle.md_dirs.specs.State.{file_by}
use Rattle.md_dirs.specs.Files.{name_row}
use Rattle.md_dirs.specs.declared.paths.File.{File}
use Rattle.md_dirs.specs.Index.{name_cmp}
use Rattle.md_dirs.specs.Find.{zone, name_at, before_colon, IsHalved, IsEdge, IsFirstPlace}
use Rattle.md_dirs.proofs.Renamed.{below-at}
use Rattle.md_dirs.proofs.NameRows.{name_total, name_exact}
use Rattle.lists.proofs.Booleans.{first, second}
use Rattle.lists.proofs.Orders.{less}

pub zone-most : (u a : List ℕ) → zone u a ≤ 4
zone-most [] [] = omega arith
zone-most [] (b ∷ bs) = by (nat_lt b 58) (b == 58)
  where
    by : (s t : Bool) → cond s 2 (cond t 3 4) ≤ 4
    by true t = omega arith
    by false true = omega arith
    by false false = omega arith
zone-most (x ∷ xs) [] = omega arith
zone-most (x ∷ xs) (b ∷ bs) = by (nat_lt b x) (b == x) (zone-most xs bs)
  where
    by : (s t : Bool) → zone xs bs ≤ 4 → cond s 0 (cond t (zone xs bs) 4) ≤ 4
    by true t h = omega arith
    by false true h = h
    by false false h = omega arith

-- bytes in order stand in order beside a byte
bytes-zone : (p q c l m h : ℕ) → l ≤ m → m ≤ h → p ≤ q → cond (nat_lt p c) l (cond (p == c) m h) ≤ cond (nat_lt q c) l (cond (q == c) m h)
bytes-zone p q c l m h lm mh pq = by (nat_lt p c) refl (p == c) refl (nat_lt q c) refl (q == c) refl
  where
    by : (s : Bool) → nat_lt p c ≡ s → (t : Bool) → (p == c) ≡ t → (s' : Bool) → nat_lt q c ≡ s' → (t' : Bool) → (q == c) ≡ t' →
        cond s l (cond t m h) ≤ cond s' l (cond t' m h)
    by true e t f true e' t' f' = omega arith
    by true e t f false e' true f' = omega arith
    by true e t f false e' false f' = omega arith
    by false e t f true e' t' f' = absurd (let a : c ≤ p = grind (arith, nat_tests) in let b : q < c = grind (arith, nat_tests) in omega arith)
    by false e true f false e' true f' = omega arith
    by false e true f false e' false f' = omega arith
    by false e false f false e' true f' =
        absurd (let a : c ≤ p = grind (arith, nat_tests) in let b : p ≢ c = grind (arith, nat_tests) in let d : q ≡ c =
        grind (arith, nat_tests) in omega arith)
    by false e false f false e' false f' = omega arith

-- names in order stand in order beside a unique name
pub zone-order : (u a b : List ℕ) → name_cmp a b ≡ Less → zone u a ≤ zone u b
zone-order [] [] [] is = omega arith
zone-order [] [] (b ∷ bs) is = by (nat_lt b 58) (b == 58)
  where
    by : (s t : Bool) → 1 ≤ cond s 2 (cond t 3 4)
    by true t = omega arith
    by false true = omega arith
    by false false = omega arith
zone-order [] (a ∷ as') [] is = cc
zone-order [] (a ∷ as') (b ∷ bs) is = bytes-zone a b 58 2 3 4 (omega arith) (omega arith) (not-above a b (name_cmp as' bs) is)
  where
    not-above : (p q : ℕ) (rest : Ordering) → ordering_then (nat_cmp p q) rest ≡ Less → p ≤ q
    not-above p q rest h = by (nat_lt p q) refl (p == q) refl h
      where
        by : (s : Bool) → nat_lt p q ≡ s → (t : Bool) → (p == q) ≡ t → ordering_then (cond s Less (cond t Equal Greater)) rest ≡ Less → p ≤ q
        by true e t f g = grind (arith, nat_tests)
        by false e true f g = grind (arith, nat_tests)
        by false e false f g = cc
zone-order (x ∷ xs) [] b is = omega arith
zone-order (x ∷ xs) (a ∷ as') [] is = cc
zone-order (x ∷ xs) (a ∷ as') (b ∷ bs) is = by (zone-order xs as' bs) (zone-most xs as') (nat_lt a b) refl (a == b) refl is
  where
    by : (name_cmp as' bs ≡ Less → zone xs as' ≤ zone xs bs) → zone xs as' ≤ 4 → (s : Bool) → nat_lt a b ≡ s → (t : Bool) → (a == b) ≡ t →
        ordering_then (cond s Less (cond t Equal Greater)) (name_cmp as' bs) ≡ Less
        → cond (nat_lt a x) 0 (cond (a == x) (zone xs as') 4) ≤ cond (nat_lt b x) 0 (cond (b == x) (zone xs bs) 4)
    by rest most true e t f g = apart (nat_lt a x) refl (a == x) refl (nat_lt b x) refl (b == x) refl
      where
        apart : (s : Bool) → nat_lt a x ≡ s → (t : Bool) → (a == x) ≡ t → (s' : Bool) → nat_lt b x ≡ s' → (t' : Bool) → (b == x) ≡ t' →
            cond s 0 (cond t (zone xs as') 4) ≤ cond s' 0 (cond t' (zone xs bs) 4)
        apart true h t' h' s'' k t'' k' = omega arith
        apart false h t' h' true k t'' k' =
            absurd (let p : x ≤ a = grind (arith, nat_tests) in let q : b < x = grind (arith, nat_tests) in let r : a < b =
            grind (arith, nat_tests) in omega arith)
        apart false h t' h' false k true k' =
            absurd (let p : x ≤ a = grind (arith, nat_tests) in let q : b ≡ x = grind (arith, nat_tests) in let r : a < b =
            grind (arith, nat_tests) in omega arith)
        apart false h true h' false k false k' = most
        apart false h false h' false k false k' = omega arith
    by rest most false e true f g =
        let same : a ≡ b = grind (arith, nat_tests) in
        let below = rest g in
        subst (λ (c : ℕ). cond (nat_lt a x) 0 (cond (a == x) (zone xs as') 4) ≤ cond (nat_lt c x) 0 (cond (c == x) (zone xs bs) 4)) same
        (alike (nat_lt a x) (a == x) below)
      where
        alike : (s t : Bool) → zone xs as' ≤ zone xs bs → cond s 0 (cond t (zone xs as') 4) ≤ cond s 0 (cond t (zone xs bs) 4)
        alike true t h = omega arith
        alike false true h = h
        alike false false h = omega arith
    by rest most false e false f g = cc

-- a name is one of a message where it stands at the unique name, or at it with a colon
abbrev pub is_zone : ℕ → Bool
is_zone z = cond (z == 1) true (z == 3)

pub named-zone : (u a : List ℕ) → is_named u a ≡ is_zone (zone u a)
named-zone [] [] = refl
named-zone [] (b ∷ bs) = by (nat_lt b 58) refl (b == 58) refl
  where
    by : (s : Bool) → nat_lt b 58 ≡ s → (t : Bool) → (b == 58) ≡ t → t ≡ is_zone (cond s 2 (cond t 3 4))
    by true e true f = absurd (let p : b < 58 = grind (arith, nat_tests) in let q : b ≡ 58 = grind (arith, nat_tests) in omega arith)
    by true e false f = refl
    by false e true f = refl
    by false e false f = refl
named-zone (x ∷ xs) [] = refl
named-zone (x ∷ xs) (b ∷ bs) = by (named-zone xs bs) (nat_lt b x) refl (b == x) refl (x == b) refl
  where
    by : is_named xs bs ≡ is_zone (zone xs bs) → (s : Bool) → nat_lt b x ≡ s → (t : Bool) → (b == x) ≡ t → (t' : Bool) → (x == b) ≡ t' →
        is_named (x ∷ xs) (b ∷ bs) ≡ is_zone (cond s 0 (cond t (zone xs bs) 4))
    by rest true e t f true f' = absurd (let p : b < x = grind (arith, nat_tests) in let q : x ≡ b = grind (arith, nat_tests) in omega arith)
    by rest false e true f true f' = ap (λ v. (v && pointwise nat_eq xs (take (length xs) bs)) && ends_unique (drop (length xs) bs)) f' ∙ rest
    by rest false e false f true f' = absurd (let p : b ≢ x = grind (arith, nat_tests) in let q : x ≡ b = grind (arith, nat_tests) in p (sym q))
    by rest true e t f false f' = ap (λ v. (v && pointwise nat_eq xs (take (length xs) bs)) && ends_unique (drop (length xs) bs)) f'
    by rest false e true f false f' = absurd (let p : b ≡ x = grind (arith, nat_tests) in let q : x ≢ b = grind (arith, nat_tests) in q (sym p))
    by rest false e false f false f' = ap (λ v. (v && pointwise nat_eq xs (take (length xs) bs)) && ends_unique (drop (length xs) bs)) f'

-- only the unique name itself stands at it
pub zone-one : (u a : List ℕ) → zone u a ≡ 1 → a ≡ u
zone-one [] [] is = refl
zone-one [] (b ∷ bs) is = absurd (by (nat_lt b 58) (b == 58) is)
  where
    by : (s t : Bool) → cond {A = ℕ} s 2 (cond t 3 4) ≡ 1 → ⊥
    by true t h = omega arith
    by false true h = omega arith
    by false false h = omega arith
zone-one (x ∷ xs) [] is = absurd (omega arith)
zone-one (x ∷ xs) (b ∷ bs) is = by (zone-one xs bs) (nat_lt b x) (b == x) refl is
  where
    by : (zone xs bs ≡ 1 → bs ≡ xs) → (s t : Bool) → (b == x) ≡ t → cond s 0 (cond t (zone xs bs) 4) ≡ 1 → b ∷ bs ≡ x ∷ xs
    by rest true t f h = absurd (omega arith)
    by rest false true f h = let one : b ≡ x = grind (arith, nat_tests) in let tail = rest h in λ i. one i ∷ tail i
    by rest false false f h = absurd (omega arith)

pub zone-same : (u : List ℕ) → zone u u ≡ 1
zone-same [] = refl
zone-same (x ∷ xs) =
    let not : nat_lt x x ≡ false = grind (arith, nat_tests) in
    let one : (x == x) ≡ true = grind (arith, nat_tests) in
    (λ i. cond (not i) 0 (cond (one i) (zone xs xs) 4)) ∙ zone-same xs

-- rows in order
above-all : (u x : List ℕ) (es : List (List ℕ × ℕ)) → T (below_all name_cmp x es) → zone u x ≡ 4 → first_with (λ e. is_named u e.0) es ≡ None
above-all u x [] h is = refl
above-all u x (e ∷ es) h is =
    let high : zone u x ≤ zone u e.0 = zone-order u x e.0 (less _ (first _ _ h)) in
    let most = zone-most u e.0 in
    let here : zone u e.0 ≡ 4 = omega arith in
    let not : is_named u e.0 ≡ false = named-zone u e.0 ∙ ap is_zone here in
    ap (λ b. cond b (Some e) (first_with (λ r. is_named u r.0) es)) not ∙ above-all u x es (second _ _ h) is

-- else the row at the point is, or none
pub first-is-info : (u : List ℕ) (es : List (List ℕ × ℕ)) (i : ℕ) → T (is_sorted name_cmp es) → find name_cmp u es ≡ None → IsEdge es u 3 i
    → first_with (λ e. is_named u e.0) es ≡ option_and_then (λ e. cond (is_named u e.0) (Some e) None) (slice_get es i)
first-is-info u [] i h none point = refl
first-is-info u (e ∷ es) zero h none point = by (is_named u e.0) refl
  where
    by : (b : Bool) → is_named u e.0 ≡ b → cond b (Some e) (first_with (λ r. is_named u r.0) es) ≡ cond b (Some e) None
    by true t = refl
    by false t =
        let high : 3 ≤ zone u e.0 = point.after 0 (omega arith) (omega arith) in
        let most = zone-most u e.0 in
        let differ : zone u e.0 ≢ 3 = (λ z. let named : is_named u e.0 ≡ true = named-zone u e.0 ∙ ap is_zone z in cc) in
        above-all u e.0 es (first _ _ h) (omega arith)
first-is-info u (e ∷ es) (suc i) h none point =
    let low : zone u e.0 < 3 = point.before 0 (omega arith) in
    let differ : zone u e.0 ≢ 1 =
    (λ z. let same = zone-one u e.0 z in let tie : eq_by_cmp name_cmp u e.0 ≡ true = ap (λ w. is_eq (name_cmp u w)) same ∙
    ap is_eq (tied_itself name_total u) in missing (eq_by_cmp name_cmp u e.0) tie none) in
    let not : is_named u e.0 ≡ false = named-zone u e.0 ∙ unnamed (zone u e.0) low differ in
    ap (λ b. cond b (Some e) (first_with (λ r. is_named u r.0) es)) not
    ∙ first-is-info u es i (second _ _ h) (later (eq_by_cmp name_cmp u e.0) none) (record {
      ordered = omega arith;
      within = omega (arith, point.within);
      before = λ k below. point.before (suc k) (omega arith);
      after = λ k from within. point.after (suc k) (omega arith) (omega arith);
    })
  where
    missing : (b : Bool) → b ≡ true → cond b (Some e.1) (find name_cmp u es) ≡ None → ⊥
    missing true t g = cc
    missing false t g = cc

    later : (b : Bool) → cond b (Some e.1) (find name_cmp u es) ≡ None → find name_cmp u es ≡ None
    later true g = cc
    later false g = g

    unnamed : (z : ℕ) → z < 3 → z ≢ 1 → is_zone z ≡ false
    unnamed zero low differ = refl
    unnamed (suc zero) low differ = absurd (differ refl)
    unnamed (suc (suc zero)) low differ = refl
    unnamed (suc (suc (suc z))) low differ = absurd (omega arith)

-- rows up to one in order stand no higher
pub zone-sorted : (u : List ℕ) (es : List (List ℕ × ℕ)) (k m : ℕ) → T (is_sorted name_cmp es) → k ≤ m → m < length es →
    zone u (name_at es k) ≤ zone u (name_at es m)
zone-sorted u [] k m h km within = absurd (omega arith)
zone-sorted u (e ∷ es) zero zero h km within = omega arith
zone-sorted u (e ∷ es) zero (suc m) h km within = zone-order u e.0 (name_at es m) (below-at e.0 es m ([], 0) (omega arith) (first _ _ h))
zone-sorted u (e ∷ es) (suc k) zero h km within = absurd (omega arith)
zone-sorted u (e ∷ es) (suc k) (suc m) h km within = zone-sorted u es k m (second _ _ h) (omega arith) (omega arith)

-- halving begins with all rows
pub halved-all : (rows : List (List ℕ × ℕ)) (u : List ℕ) (edge : ℕ) → IsHalved rows u edge 0 (length rows)
halved-all rows u edge = record { ordered = omega arith; within = omega arith; before = λ k h. absurd (omega arith); after = λ k h h'. absurd (omega arith) }

-- and ends where the positions meet
pub halved-edge : (rows : List (List ℕ × ℕ)) (u : List ℕ) (edge low high : ℕ) → IsHalved rows u edge low high → high ≤ low → IsEdge rows u edge low
halved-edge rows u edge low high halved met = let same : high ≡ low = omega (arith, halved.ordered) in subst (IsHalved rows u edge low) same halved

module _ (rows : List (List ℕ × ℕ)) (u : List ℕ) (edge low high : ℕ) (sorted : T (is_sorted name_cmp rows)) (halved : IsHalved rows u edge low high)
    (m : ℕ) (from : low ≤ m) (to : m < high) where
  -- it goes on after a row that is below
  pub halved-low : nat_lt (zone u (name_at rows m)) edge ≡ true → IsHalved rows u edge (m + 1) high
  halved-low test =
      let below : zone u (name_at rows m) < edge = grind (arith, nat_tests) in
      record {
        ordered = omega arith;
        within = halved.within;
        before = λ k h. let up = zone-sorted u rows k m sorted (omega arith) (omega (arith, halved.within)) in omega arith;
        after = halved.after;
      }

  -- and before one that is not
  pub halved-high : nat_lt (zone u (name_at rows m)) edge ≡ false → IsHalved rows u edge low m
  halved-high test =
      let above : edge ≤ zone u (name_at rows m) = grind (arith, nat_tests) in
      record {
        ordered = from;
        within = omega (arith, halved.within);
        before = halved.before;
        after = λ k h h'. let up = zone-sorted u rows m k sorted h h' in omega arith;
      }

-- whether a name is below the unique name with a colon, by its first bytes
pub below-info : (u a : List ℕ) → nat_lt (zone u a) 3 ≡ cond (starts_with nat_eq a u) (before_colon (drop (length u) a)) (is_lt (name_cmp a u))
below-info [] [] = refl
below-info [] (b ∷ bs) = by (nat_lt b 58) (b == 58)
  where
    by : (s t : Bool) → nat_lt (cond s 2 (cond t 3 4)) 3 ≡ s
    by true t = refl
    by false true = refl
    by false false = refl
below-info (x ∷ xs) [] = refl
below-info (x ∷ xs) (b ∷ bs) = by (below-info xs bs) (nat_lt b x) refl (b == x) refl (x == b) refl
  where
    by : nat_lt (zone xs bs) 3 ≡ cond (starts_with nat_eq bs xs) (before_colon (drop (length xs) bs)) (is_lt (name_cmp bs xs)) → (s : Bool) →
        nat_lt b x ≡ s → (t : Bool) → (b == x) ≡ t → (t' : Bool) → (x == b) ≡ t'
        → nat_lt (cond s 0 (cond t (zone xs bs) 4)) 3 ≡ cond (t' && pointwise nat_eq xs (take (length xs) bs)) (before_colon (drop (length xs) bs))
        (is_lt (ordering_then (cond s Less (cond t Equal Greater)) (name_cmp bs xs)))
    by rest true e t f true f' = absurd (let p : b < x = grind (arith, nat_tests) in let q : x ≡ b = grind (arith, nat_tests) in omega arith)
    by rest false e true f true f' = rest
    by rest false e false f true f' = absurd (let p : b ≢ x = grind (arith, nat_tests) in let q : x ≡ b = grind (arith, nat_tests) in p (sym q))
    by rest true e t f false f' = refl
    by rest false e true f false f' = absurd (let p : b ≡ x = grind (arith, nat_tests) in let q : x ≢ b = grind (arith, nat_tests) in q (sym p))
    by rest false e false f false f' = refl

-- what is kept of rows keeps the first that has the unique name
pub name-by : (a : List ℕ) (o : Option File) → (row_by a o).name ≡ a
name-by a None = refl
name-by a (Some file) = refl

pub row_named-map : (u : List ℕ) (files : List (Option File)) (es : List (List ℕ × ℕ)) →
    row_named u (map (name_row files) es) ≡ option_map (name_row files) (first_with (λ e. is_named u e.0) es)
row_named-map u files [] = refl
row_named-map u files (e ∷ es) =
    ap (λ a. cond (is_named u a) (Some (name_row files e)) (row_named u (map (name_row files) es))) (name-by e.0 (file_by files e.1))
    ∙ by (is_named u e.0) (row_named-map u files es)
  where
    by : (b : Bool) → row_named u (map (name_row files) es) ≡ option_map (name_row files) (first_with (λ x. is_named u x.0) es) →
        cond b (Some (name_row files e)) (row_named u (map (name_row files) es)) ≡ option_map (name_row files)
        (cond b (Some e) (first_with (λ x. is_named u x.0) es))
    by true rest = refl
    by false rest = rest

-- the row that is found is one of the rows
pub found-among : (u : List ℕ) (P : List ℕ × ℕ → Type 0) (es : List (List ℕ × ℕ)) (r : List ℕ × ℕ) →
    ((i : ℕ) (x : List ℕ × ℕ) → slice_get es i ≡ Some x → P x) → Some r ≡ first_with (λ e. is_named u e.0) es → P r
found-among u P [] r all is = cc
found-among u P (e ∷ es) r all is = by (found-among u P es r (λ i x at. all (suc i) x at)) (is_named u e.0) is
  where
    by : (Some r ≡ first_with (λ x. is_named u x.0) es → P r) → (b : Bool) → Some r ≡ cond b (Some e) (first_with (λ x. is_named u x.0) es) → P r
    by rest true h = let one : e ≡ r = cc in subst P one (all 0 e refl)
    by rest false h = rest h

-- a name below the unique name stands below it, and any other at it or above
pub below-name : (u a : List ℕ) → nat_lt (zone u a) 1 ≡ is_lt (name_cmp a u)
below-name u a = by (name_cmp a u) refl
  where
    at-least : 1 ≤ zone u a → nat_lt (zone u a) 1 ≡ false
    at-least h = grind (arith, nat_tests)

    by : (o : Ordering) → name_cmp a u ≡ o → nat_lt (zone u a) 1 ≡ is_lt o
    by Less is =
        let under = zone-order u a u is in
        let one = zone-same u in
        let differ : zone u a ≢ 1 = (λ z. let tie : name_cmp a u ≡ Equal = ap (λ w. name_cmp w u) (zone-one u a z) ∙ tied_itself name_total u in cc) in
        let low : zone u a < 1 = omega arith in
        grind (arith, nat_tests)
    by Equal is = at-least (let at : zone u a ≡ 1 = ap (zone u) (name_exact a u is) ∙ zone-same u in omega arith)
    by Greater is =
        let over = zone-order u u a (name_total.antisymm u a ∙ ap ordering_reverse is) in
        let one = zone-same u in
        at-least (omega arith)

-- where the rows begin that are not below the unique name: the row there is the first, if it has the unique name
pub name-point : (u : List ℕ) (es : List (List ℕ × ℕ)) (i : ℕ) → i < length es → ((k : ℕ) → k < i → zone u (name_at es k) < 1) →
    is_named u (name_at es i) ≡ true → IsFirstPlace es u i
name-point u [] i within before named = absurd (omega arith)
name-point u (e ∷ es) zero within before named =
    ap (λ b. cond b (Some e) (first_with (λ r. is_named u r.0) es)) named ∙ sym (ap (λ b. cond b (Some e) None) named)
name-point u (e ∷ es) (suc i) within before named =
    let low : zone u e.0 < 1 = before 0 (omega arith) in
    let none : zone u e.0 ≡ 0 = omega arith in
    let not : is_named u e.0 ≡ false = named-zone u e.0 ∙ ap is_zone none in
    ap (λ b. cond b (Some e) (first_with (λ r. is_named u r.0) es)) not ∙ name-point u es i (omega arith) (λ k below. before (suc k) (omega arith)) named

-- and else the unique name itself is not there
name-absent : (u : List ℕ) (es : List (List ℕ × ℕ)) → ((k : ℕ) → k < length es → zone u (name_at es k) ≢ 1) → find name_cmp u es ≡ None
name-absent u [] differ = refl
name-absent u (e ∷ es) differ = by (name-absent u es (λ k within. differ (suc k) (omega arith))) (eq_by_cmp name_cmp u e.0) refl
  where
    equal : (o : Ordering) → is_eq o ≡ true → o ≡ Equal
    equal Less p = cc
    equal Equal p = refl
    equal Greater p = cc

    by : find name_cmp u es ≡ None → (b : Bool) → eq_by_cmp name_cmp u e.0 ≡ b → cond b (Some e.1) (find name_cmp u es) ≡ None
    by rest true t = absurd (differ 0 (omega arith) (ap (zone u) (sym (name_exact u e.0 (equal _ t))) ∙ zone-same u))
    by rest false t = rest

pub name-missing : (u : List ℕ) (es : List (List ℕ × ℕ)) (i : ℕ) → T (is_sorted name_cmp es) → ((k : ℕ) → k < i → zone u (name_at es k) < 1) →
    ((k : ℕ) → i ≤ k → k < length es → 1 ≤ zone u (name_at es k))
    → (i < length es → is_named u (name_at es i) ≡ false) → find name_cmp u es ≡ None
name-missing u es i h before behind unnamed = name-absent u es (λ k within z. by k within z (nat_lt k i) refl)
  where
    by : (k : ℕ) → k < length es → zone u (name_at es k) ≡ 1 → (b : Bool) → nat_lt k i ≡ b → ⊥
    by k within z true t = let early : k < i = grind (arith, nat_tests) in let low = before k early in omega arith
    by k within z false t =
        let late : i ≤ k = grind (arith, nat_tests) in
        let high = behind i (omega arith) (omega arith) in
        let up = zone-sorted u es i k h late within in
        let one : zone u (name_at es i) ≡ 1 = omega arith in
        let named : is_named u (name_at es i) ≡ true = named-zone u (name_at es i) ∙ ap is_zone one in
        let not = unnamed (omega arith) in cc
