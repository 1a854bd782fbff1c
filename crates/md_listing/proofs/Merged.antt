-- The merge of two lists in order is their join.
use Rattle.std.proofs.Common.{ℕ, zero, suc, ◌≡◌, ◌<◌, ◌≤◌, ◌+◌, ◌-◌, ◌*◌, ◌++◌, List, [], ◌∷◌, Some, None, true, false, cond, drop, get_or, length, refl, sym, ap, subst, ◌∙◌, arith}
use Rattle.std.proofs.lemmas.List.{at_drop_more, length-drop}
use Rattle.std.specs.Option.{option_or}
use Rattle.std.specs.declared.cmp.Ordering.{Ordering}
use Rattle.std.specs.declared.cmp.Ordering.TheVariants.{Less, Equal, Greater}
use Rattle.std.specs.Ordering.{eq_by_cmp, is_eq}
use Rattle.std.specs.FinMap.Entries.{by_order}
use Rattle.md_core.specs.Mailbox.{name_cmp}
use Rattle.md_listing.specs.declared.entry.Entry.{Entry}
use Rattle.md_listing.specs.Readings.{join_of}
use Rattle.md_listing.proofs.Keyed.{lookup, IsBelow, IsSorted, both, first, second, less, is_less, turned, tie-same, below-less, lookup-below, lookup-append, sorted-values}

-- an entry of new among those of cur, and what else is merged behind it
abbrev pub into : Entry → (List Entry → List Entry) → List Entry → List Entry
into n rest [] = n ∷ rest []
into n rest (c ∷ cur) = by_order (name_cmp n.unique c.unique) (n ∷ rest (c ∷ cur)) (rest (c ∷ cur)) (c ∷ into n rest cur)

abbrev pub merged : List Entry → List Entry → List Entry
merged [] cur = cur
merged (n ∷ new) cur = into n (merged new) cur

below-into : (k : List ℕ) (n : Entry) (rest : List Entry → List Entry) → ((cs : List Entry) → IsBelow k cs → IsBelow k (rest cs)) → name_cmp k n.unique ≡ Less
    → (cur : List Entry) → IsBelow k cur → IsBelow k (into n rest cur)
below-into k n rest more less [] below = both _ _ (is_less _ less) (more [] tt)
below-into k n rest more less (c ∷ cur) below =
    elim (name_cmp n.unique c.unique) as (λ o. IsBelow k (by_order o (n ∷ rest (c ∷ cur)) (rest (c ∷ cur)) (c ∷ into n rest cur))) [
      | Less ↦ both _ _ (is_less _ less) (more (c ∷ cur) below)
      | Equal ↦ more (c ∷ cur) below
      | Greater ↦ both _ _ (first _ _ below) (below-into k n rest more less cur (second _ _ below))
    ]

below-merged : (k : List ℕ) (new cur : List Entry) → IsBelow k new → IsBelow k cur → IsBelow k (merged new cur)
below-merged k [] cur before below = below
below-merged k (n ∷ new) cur before below =
    below-into k n (merged new) (λ cs. below-merged k new cs (second _ _ before)) (less _ (first _ _ before)) cur below

-- one entry goes into cur before the rest
module _ (n : Entry) (new : List Entry) (before : IsBelow n.unique new) (rest : List Entry → List Entry) where
  sorted-into : ((k : List ℕ) (cs : List Entry) → IsBelow k new → IsBelow k cs → IsBelow k (rest cs)) → ((cs : List Entry) → IsSorted cs → IsSorted (rest cs))
      → (cur : List Entry) → IsSorted cur → IsSorted (into n rest cur)
  sorted-into below more [] sorted = both _ _ (below n.unique [] before tt) (more [] tt)
  sorted-into below more (c ∷ cur) sorted =
      elim (name_cmp n.unique c.unique)
      as (λ o. name_cmp n.unique c.unique ≡ o → IsSorted (by_order o (n ∷ rest (c ∷ cur)) (rest (c ∷ cur)) (c ∷ into n rest cur))) [
        | Less ↦ λ is. both _ _ (below n.unique (c ∷ cur) before (both _ _ (is_less _ is) (below-less n.unique c.unique cur is (first _ _ sorted))))
            (more (c ∷ cur) sorted)
        | Equal ↦ λ is. more (c ∷ cur) sorted
        | Greater ↦ λ is.
            let under : name_cmp c.unique n.unique ≡ Less = turned c.unique n.unique Greater is in
            both _ _ (below-into c.unique n rest (λ cs. below c.unique cs (below-less c.unique n.unique new under before)) under cur (first _ _ sorted))
            (sorted-into below more cur (second _ _ sorted))
      ] refl

  lookup-into : (u : List ℕ) → ((cs : List Entry) → IsSorted cs → lookup u (rest cs) ≡ option_or (lookup u cs) (lookup u new))
      → (cur : List Entry) → IsSorted cur → lookup u (into n rest cur) ≡ option_or (lookup u cur) (lookup u (n ∷ new))
  lookup-into u found [] sorted = ap (cond (eq_by_cmp name_cmp u n.unique) (Some n)) (found [] tt)
  lookup-into u found (c ∷ cur) sorted =
      elim (name_cmp n.unique c.unique) as (λ o. name_cmp n.unique c.unique ≡ o →
      lookup u (by_order o (n ∷ rest (c ∷ cur)) (rest (c ∷ cur)) (c ∷ into n rest cur)) ≡ option_or (lookup u (c ∷ cur)) (lookup u (n ∷ new))) [
        | Less ↦ λ is.
            ap (cond (eq_by_cmp name_cmp u n.unique) (Some n)) (found (c ∷ cur) sorted)
            ∙ elim (eq_by_cmp name_cmp u n.unique) as (λ b. eq_by_cmp name_cmp u n.unique ≡ b →
            cond b (Some n) (option_or (lookup u (c ∷ cur)) (lookup u new)) ≡ option_or (lookup u (c ∷ cur)) (cond b (Some n) (lookup u new))) [
              | true ↦ λ t.
                  let under : name_cmp u c.unique ≡ Less = ap (λ v. name_cmp v c.unique) (tie-same u n.unique t) ∙ is in
                  sym (ap (λ o. option_or o (Some n))
                  (lookup-below u (c ∷ cur) (both _ _ (is_less _ under) (below-less u c.unique cur under (first _ _ sorted)))))
              | false ↦ λ t. refl
            ] refl
        | Equal ↦ λ is.
            found (c ∷ cur) sorted
            ∙ elim (eq_by_cmp name_cmp u n.unique) as (λ b. eq_by_cmp name_cmp u n.unique ≡ b →
            option_or (lookup u (c ∷ cur)) (lookup u new) ≡ option_or (lookup u (c ∷ cur)) (cond b (Some n) (lookup u new))) [
              | true ↦ λ t.
                  let tie : eq_by_cmp name_cmp u c.unique ≡ true = ap (λ v. eq_by_cmp name_cmp v c.unique) (tie-same u n.unique t) ∙ ap is_eq is in
                  let here : lookup u (c ∷ cur) ≡ Some c = ap (λ b. cond b (Some c) (lookup u cur)) tie in
                  ap (λ o. option_or o (lookup u new)) here ∙ sym (ap (λ o. option_or o (Some n)) here)
              | false ↦ λ t. refl
            ] refl
        | Greater ↦ λ is.
            ap (cond (eq_by_cmp name_cmp u c.unique) (Some c)) (lookup-into u found cur (second _ _ sorted))
            ∙ elim (eq_by_cmp name_cmp u c.unique) as (λ b.
            cond b (Some c) (option_or (lookup u cur) (lookup u (n ∷ new))) ≡ option_or (cond b (Some c) (lookup u cur)) (lookup u (n ∷ new))) [
              | true ↦ refl
              | false ↦ refl
            ]
      ] refl

pub merged-sorted : (new cur : List Entry) → IsSorted new → IsSorted cur → IsSorted (merged new cur)
merged-sorted [] cur before sorted = sorted
merged-sorted (n ∷ new) cur before sorted =
    sorted-into n new (first _ _ before) (merged new) (λ k cs. below-merged k new cs) (λ cs. merged-sorted new cs (second _ _ before)) cur sorted

pub lookup-merged : (u : List ℕ) (new cur : List Entry) → IsSorted new → IsSorted cur → lookup u (merged new cur) ≡ option_or (lookup u cur) (lookup u new)
lookup-merged u [] cur before sorted = elim (lookup u cur) as (λ o. o ≡ option_or o None) [ None ↦ refl | Some e ↦ refl ]
lookup-merged u (n ∷ new) cur before sorted =
    lookup-into n new (first _ _ before) (merged new) u (λ cs. lookup-merged u new cs (second _ _ before)) cur sorted

pub merged-join : (new cur : List Entry) → IsSorted new → IsSorted cur → merged new cur ≡ join_of new cur
merged-join new cur before sorted =
    sorted-values (merged new cur) (cur ++ new) (merged-sorted new cur before sorted)
    (λ u. lookup-merged u new cur before sorted ∙ sym (lookup-append u cur new))

pub join-sorted : (new cur : List Entry) → IsSorted new → IsSorted cur → IsSorted (join_of new cur)
join-sorted new cur before sorted = subst IsSorted (merged-join new cur before sorted) (merged-sorted new cur before sorted)

-- where one list has ended the other is left
pub merged-none : (new : List Entry) → merged new [] ≡ new
merged-none [] = refl
merged-none (n ∷ new) = ap (λ (rest : List Entry). n ∷ rest) (merged-none new)

drop-past : {X : Type 0} (xs : List X) (i : ℕ) → length xs ≤ i → drop i xs ≡ []
drop-past [] zero past = refl
drop-past [] (suc i) past = refl
drop-past (x ∷ xs) zero past = absurd (omega arith)
drop-past (x ∷ xs) (suc i) past = drop-past xs i (omega arith)

drop-sorted : (es : List Entry) (i : ℕ) → IsSorted es → IsSorted (drop i es)
drop-sorted [] zero sorted = tt
drop-sorted [] (suc i) sorted = tt
drop-sorted (e ∷ es) zero sorted = sorted
drop-sorted (e ∷ es) (suc i) sorted = drop-sorted es i (second _ _ sorted)

next : (es : List Entry) (i : ℕ) (e : Entry) → i < length es → e ≡ get_or es i e → drop i es ≡ e ∷ drop (i + 1) es
next es i e within is =
    at_drop_more (λ (rest : List Entry). rest) es i e within ∙ ap (λ (x : Entry). x ∷ drop (i + 1) es) (sym is)

-- the merge is no longer than both lists
length-into : (n : Entry) (k : ℕ) (rest : List Entry → List Entry) → ((cs : List Entry) → length (rest cs) ≤ k + length cs)
    → (cur : List Entry) → length (into n rest cur) ≤ suc k + length cur
length-into n k rest short [] = let most = short [] in omega (arith, most)
length-into n k rest short (c ∷ cur) =
    elim (name_cmp n.unique c.unique)
    as (λ o. length (by_order o (n ∷ rest (c ∷ cur)) (rest (c ∷ cur)) (c ∷ into n rest cur)) ≤ suc k + suc (length cur)) [
      | Less ↦ let most = short (c ∷ cur) in omega (arith, most)
      | Equal ↦ let most = short (c ∷ cur) in omega (arith, most)
      | Greater ↦ let most = length-into n k rest short cur in omega (arith, most)
    ]

length-merged : (new cur : List Entry) → length (merged new cur) ≤ length new + length cur
length-merged [] cur = omega arith
length-merged (n ∷ new) cur = length-into n (length new) (merged new) (length-merged new) cur

-- an entry of cur comes first where it is below all of new
comes-first : (c : Entry) (cur new : List Entry) → IsBelow c.unique new → merged new (c ∷ cur) ≡ c ∷ merged new cur
comes-first c cur [] below = refl
comes-first c cur (n ∷ new) below =
    ap (λ o. by_order o (n ∷ merged new (c ∷ cur)) (merged new (c ∷ cur)) (c ∷ into n (merged new) cur))
    (turned n.unique c.unique Less (less _ (first _ _ below)))

-- the merge is as long as each list
all-of-cur : (n : Entry) (rest : List Entry → List Entry) → ((cs : List Entry) → length cs ≤ length (rest cs)) → (cur : List Entry) → length cur ≤ length (into n rest cur)
all-of-cur n rest long [] = omega arith
all-of-cur n rest long (c ∷ cur) =
    elim (name_cmp n.unique c.unique)
    as (λ o. suc (length cur) ≤ length (by_order o (n ∷ rest (c ∷ cur)) (rest (c ∷ cur)) (c ∷ into n rest cur))) [
      | Less ↦ let least = long (c ∷ cur) in omega (arith, least)
      | Equal ↦ let least = long (c ∷ cur) in omega (arith, least)
      | Greater ↦ let least = all-of-cur n rest long cur in omega (arith, least)
    ]

cur-within : (new cur : List Entry) → length cur ≤ length (merged new cur)
cur-within [] cur = omega arith
cur-within (n ∷ new) cur = all-of-cur n (merged new) (cur-within new) cur

all-of-new : (n : Entry) (new : List Entry) → IsBelow n.unique new → ((cs : List Entry) → length new ≤ length (merged new cs))
    → (cur : List Entry) → suc (length new) ≤ length (into n (merged new) cur)
all-of-new n new before long [] = let least = long [] in omega (arith, least)
all-of-new n new before long (c ∷ cur) =
    elim (name_cmp n.unique c.unique) as (λ o. name_cmp n.unique c.unique ≡ o →
    suc (length new) ≤ length (by_order o (n ∷ merged new (c ∷ cur)) (merged new (c ∷ cur)) (c ∷ into n (merged new) cur))) [
      | Less ↦ λ is. let least = long (c ∷ cur) in omega (arith, least)
      | Equal ↦ λ is.
          let below : IsBelow c.unique new = subst (λ u. IsBelow u new) (tie-same n.unique c.unique (ap is_eq is)) before in
          let least = long cur in omega (arith, least, ap length (comes-first c cur new below))
      | Greater ↦ λ is. let least = all-of-new n new before long cur in omega (arith, least)
    ] refl

new-within : (new cur : List Entry) → IsSorted new → length new ≤ length (merged new cur)
new-within [] cur before = omega arith
new-within (n ∷ new) cur before = all-of-new n new (first _ _ before) (λ cs. new-within new cs (second _ _ before)) cur

-- how the join goes on from places in both lists
module _ (new cur : List Entry) (before : IsSorted new) (sorted : IsSorted cur) where
  left-is : (i j : ℕ) → join_of (drop i new) (drop j cur) ≡ merged (drop i new) (drop j cur)
  left-is i j = sym (merged-join (drop i new) (drop j cur) (drop-sorted new i before) (drop-sorted cur j sorted))

  pub length-left : (i j : ℕ) → length (join_of (drop i new) (drop j cur)) ≤ (length new - i) + (length cur - j)
  length-left i j =
      let most = length-merged (drop i new) (drop j cur) in
      let n = length-drop i new in
      let m = length-drop j cur in
      let same = ap length (left-is i j) in
      omega (arith, most, n, m, same)

  pub half-left : (i j : ℕ) → (length new - i) + (length cur - j) ≤ 2 * length (join_of (drop i new) (drop j cur))
  half-left i j =
      let of_new = new-within (drop i new) (drop j cur) (drop-sorted new i before) in
      let of_cur = cur-within (drop i new) (drop j cur) in
      let n = length-drop i new in
      let m = length-drop j cur in
      let same = ap length (left-is i j) in
      omega (arith, of_new, of_cur, n, m, same)

  pub both-ended : (i j : ℕ) → length new ≤ i → length cur ≤ j → join_of (drop i new) (drop j cur) ≡ []
  both-ended i j past ended = left-is i j ∙ (λ k. merged (drop-past new i past k) (drop-past cur j ended k))

  pub cur-left : (i j : ℕ) (c : Entry) → length new ≤ i → j < length cur → c ≡ get_or cur j c
      → join_of (drop i new) (drop j cur) ≡ c ∷ join_of (drop i new) (drop (j + 1) cur)
  cur-left i j c past within is =
      left-is i j ∙ (λ k. merged (drop-past new i past k) (next cur j c within is k))
      ∙ ap (λ (es : List Entry). c ∷ es)
      (sym (left-is i (j + 1) ∙ ap (λ (es : List Entry). merged es (drop (j + 1) cur)) (drop-past new i past)))

  pub new-left : (i j : ℕ) (n : Entry) → length cur ≤ j → i < length new → n ≡ get_or new i n
      → join_of (drop i new) (drop j cur) ≡ n ∷ join_of (drop (i + 1) new) (drop j cur)
  new-left i j n past within is =
      left-is i j ∙ (λ k. merged (next new i n within is k) (drop-past cur j past k))
      ∙ ap (λ (es : List Entry). n ∷ es) (sym (left-is (i + 1) j ∙ ap (merged (drop (i + 1) new)) (drop-past cur j past)))

  module _ (i j : ℕ) (n c : Entry) (within : i < length new) (here : n ≡ get_or new i n) (inside : j < length cur) (there : c ≡ get_or cur j c) where
    next-new : drop i new ≡ n ∷ drop (i + 1) new
    next-new = next new i n within here

    next-cur : drop j cur ≡ c ∷ drop (j + 1) cur
    next-cur = next cur j c inside there

    abbrev by : Ordering → List Entry
    by o = by_order o (n ∷ merged (drop (i + 1) new) (c ∷ drop (j + 1) cur)) (merged (drop (i + 1) new) (c ∷ drop (j + 1) cur))
        (c ∷ merged (n ∷ drop (i + 1) new) (drop (j + 1) cur))

    both-left : (o : Ordering) → name_cmp n.unique c.unique ≡ o → join_of (drop i new) (drop j cur) ≡ by o
    both-left o is = left-is i j ∙ (λ k. merged (next-new k) (next-cur k)) ∙ ap by is

    pub new-first : name_cmp n.unique c.unique ≡ Less → join_of (drop i new) (drop j cur) ≡ n ∷ join_of (drop (i + 1) new) (drop j cur)
    new-first is = both-left Less is
        ∙ ap (λ (es : List Entry). n ∷ es) (sym (left-is (i + 1) j ∙ ap (merged (drop (i + 1) new)) next-cur))

    pub cur-first : name_cmp n.unique c.unique ≡ Greater → join_of (drop i new) (drop j cur) ≡ c ∷ join_of (drop i new) (drop (j + 1) cur)
    cur-first is = both-left Greater is
        ∙ ap (λ (es : List Entry). c ∷ es) (sym (left-is i (j + 1) ∙ ap (λ (es : List Entry). merged es (drop (j + 1) cur)) next-new))

    -- one that both lists have
    pub cur-counts : name_cmp n.unique c.unique ≡ Equal → join_of (drop i new) (drop j cur) ≡ c ∷ join_of (drop (i + 1) new) (drop (j + 1) cur)
    cur-counts is =
        let below : IsBelow n.unique (drop (i + 1) new) = first _ _ (subst IsSorted next-new (drop-sorted new i before)) in
        both-left Equal is
        ∙ comes-first c (drop (j + 1) cur) (drop (i + 1) new)
        (subst (λ u. IsBelow u (drop (i + 1) new)) (tie-same n.unique c.unique (ap is_eq is)) below)
        ∙ ap (λ (es : List Entry). c ∷ es) (sym (left-is (i + 1) (j + 1)))

none-left : (es : List Entry) → length es ≤ 0 → es ≡ []
none-left [] past = refl
none-left (e ∷ es) past = absurd (omega arith)

-- the join of a list and an empty one is that list
pub join-none-new : (new cur : List Entry) → length new ≡ 0 → IsSorted cur → cur ≡ join_of new cur
join-none-new new cur none sorted =
    let is : new ≡ [] = none-left new (omega (arith, none)) in
    subst (λ (es : List Entry). cur ≡ join_of es cur) (sym is) (merged-join [] cur tt sorted)

pub join-none-cur : (new cur : List Entry) → length cur ≡ 0 → IsSorted new → new ≡ join_of new cur
join-none-cur new cur none sorted =
    let is : cur ≡ [] = none-left cur (omega (arith, none)) in
    subst (λ (es : List Entry). new ≡ join_of new es) (sym is) (sym (merged-none new) ∙ merged-join new [] sorted tt)
