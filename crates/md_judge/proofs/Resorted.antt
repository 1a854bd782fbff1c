-- Findings that are put in the order of their lines.
use Rattle.std.proofs.Common.{ℕ, zero, suc, ◌≡◌, ◌≢◌, ◌<◌, ◌≤◌, ◌+◌, ◌-◌, ◌⊎◌, inl, inr, ◌↔◌, List, [], ◌∷◌, ◌++◌, map, Some, length, get_or, slice_get, swap, true, false, IsPermutation, IsSorted, Ordering, Less, Equal, nat_cmp, is_lt, ltb, refl, sym, ap, subst, ◌∙◌, arith}
use Rattle.std.specs.Cmp.{nat_cmp_is}
use Rattle.std.specs.Ordering.{ordering_then}
use Rattle.std.proofs.lemmas.Bool.{cases_lt, cases_eq, lt-ltb}
use Rattle.std.proofs.lemmas.List.{get_or-map, length-map, length_push}
use Rattle.std.proofs.lemmas.List.Edits.{Swapped, swapped_from_swap, length-swap}
use Rattle.std.proofs.lemmas.List.Sorted.{IsPermutation-keeps, IsPermutation-map, All-permutation, Contains-permutation}
use Rattle.std.proofs.lemmas.Option.{slice_get_within, slice_get-get_or, get_or_from_slice_get}
use Rattle.md_log.specs.declared.clause.Clause.{Clause}
use Rattle.md_judge.specs.declared.log.Finding.{Finding}
use Rattle.md_judge.specs.Verdict.{AreInOrder, IsAmong}
use Rattle.md_judge.specs.Placed.{AreInOrderAtLines}
use Rattle.md_judge.proofs.Lists.{same-step, last-is}

-- ---- numbers that differ still differ in another order

abbrev Differ : List ℕ → Type 0
Differ ns = (i j : ℕ) → i < j → j < length ns → get_or ns i 0 ≡ get_or ns j 0 → ⊥

either-way : (ns : List ℕ) → Differ ns → (i j : ℕ) → i < length ns → j < length ns → get_or ns i 0 ≡ get_or ns j 0 → i ≡ j
either-way ns differ i j low low' same = elim (cases_lt i j) [
  | inl up ↦ absurd (differ i j up low' same)
  | inr high ↦ elim (cases_lt j i) [ inl up ↦ absurd (differ j i up low (sym same)) | inr high' ↦ omega (arith, high, high') ]
]

-- where a swap took what stands at a place from
abbrev From : ℕ → ℕ → ℕ → ℕ → Type 0
From a b m k = ((m ≡ a) × (k ≡ b)) ⊎ (((m ≡ b) × (k ≡ a)) ⊎ ((m ≢ a) × (m ≢ b) × (k ≡ m)))

origin : (f g : ℕ → ℕ) (a b m : ℕ) → Swapped f g a b → (m ≡ a) ⊎ (m ≢ a) → (m ≡ b) ⊎ (m ≢ b) → (k : ℕ) × From a b m k × (g m ≡ f k)
origin f g a b m s (inl e) y = (b, inl (e, refl), ap g e ∙ s.0)
origin f g a b m s (inr n) (inl e) = (a, inr (inl (e, refl)), ap g e ∙ s.1)
origin f g a b m s (inr n) (inr o) = (m, inr (inr (n, o, refl)), s.2 m n o)

differ-swap : (ns : List ℕ) (a b : ℕ) → a < length ns → b < length ns → Differ ns → Differ (swap ns a b)
differ-swap ns a b p q differ i j less within same =
    let long = length-swap ns a b in
    let s = swapped_from_swap ns (swap ns a b) a b 0 p q refl in
    let x = origin _ _ a b i s (cases_eq i a) (cases_eq i b) in
    let y = origin _ _ a b j s (cases_eq j a) (cases_eq j b) in
    let one = either-way ns differ x.0 y.0 (omega (arith, x.1, long, within, less, p, q)) (omega (arith, y.1, long, within, p, q)) (sym x.2 ∙ same ∙ y.2) in
    omega (arith, x.1, y.1, one, less)

-- ---- pairs of a line and of the place of a finding

abbrev pub Entry : Type 0
Entry = ℕ × ℕ

abbrev pub entry_cmp : Entry → Entry → Ordering
entry_cmp a b = ordering_then (nat_cmp a.0 b.0) (nat_cmp a.1 b.1)

abbrev IsBelow : Entry → Entry → Type 0
IsBelow a b = (a.0 < b.0) ⊎ ((a.0 ≡ b.0) × (a.1 ≤ b.1))

-- what is not greater comes first, by its line and then by its place
below-by : (a b : Entry) → is_lt (entry_cmp b a) ≡ false → IsBelow a b
below-by a b not-less = elim (cases_lt b.0 a.0) [
  | inl up ↦
      let less : nat_cmp b.0 a.0 ≡ Less = sym (nat_cmp_is b.0 a.0 Less up) in
      let said : true ≡ false = sym (ap (λ o. is_lt (ordering_then o (nat_cmp b.1 a.1))) less) ∙ not-less in
      absurd (cc said)
  | inr high ↦ elim (cases_lt a.0 b.0) [
    | inl up ↦ inl up
    | inr high' ↦
        let same : b.0 ≡ a.0 = omega (arith, high, high') in
        let equal : nat_cmp b.0 a.0 ≡ Equal = sym (nat_cmp_is b.0 a.0 Equal same) in
        inr (
          sym same,
          elim (cases_lt b.1 a.1) [
            | inl up ↦
                let less : nat_cmp b.1 a.1 ≡ Less = sym (nat_cmp_is b.1 a.1 Less up) in
                let said : true ≡ false =
                sym (ap is_lt less) ∙ sym (ap (λ o. is_lt (ordering_then o (nat_cmp b.1 a.1))) equal) ∙ not-less in
                absurd (cc said)
            | inr low ↦ low
          ],
        )
  ]
]

below-then : (a b c : Entry) → IsBelow a b → IsBelow b c → IsBelow a c
below-then a b c (inl up) (inl up') = inl (omega (arith, up, up'))
below-then a b c (inl up) (inr same) = inl (let e = same.0 in omega (arith, up, e))
below-then a b c (inr same) (inl up) = inl (let e = same.0 in omega (arith, up, e))
below-then a b c (inr same) (inr same') = inr (same.0 ∙ same'.0, (let low = same.1 in let low' = same'.1 in omega (arith, low, low')))

abbrev pub AreEntries : List Finding → List Entry → Type 0
AreEntries fs es = (k : ℕ) (f : Finding) → slice_get fs k ≡ Some f → slice_get es k ≡ Some (f.line, k)

-- the entry is that of a finding
abbrev pub IsEntry : List Finding → Entry → Type 0
IsEntry fs e = (f : Finding) × (slice_get fs e.1 ≡ Some f) × (f.line ≡ e.0)

-- what stands at a place within a list
there-is : {A : Type 0} (xs : List A) (k : ℕ) → k < length xs → (x : A) × (slice_get xs k ≡ Some x)
there-is [] k low = absurd (omega (arith, low))
there-is (x ∷ xs) zero low = (x, refl)
there-is (x ∷ xs) (suc k) low = there-is xs k (omega (arith, low))

module _ (fs : List Finding) (old new : List Entry) (long : length old ≡ length fs) (are : AreEntries fs old) (moved : IsPermutation old new)
    (sorted : IsSorted entry_cmp new) where
  -- each is that of a finding
  entry-at : (k : ℕ) (d : Entry) → k < length old → IsEntry fs (get_or old k d)
  entry-at k d low =
      let f = there-is fs k (omega (arith, low, long)) in
      let same : get_or old k d ≡ (f.0.line, k) = get_or_from_slice_get old k (f.0.line, k) d (are k f.0 f.1) in
      subst (λ (e : Entry). IsEntry fs e) (sym same) (f.0, f.1, refl)

  pub entry-of : (k : ℕ) (e : Entry) → slice_get new k ≡ Some e → IsEntry fs e
  entry-of k e is =
      let low = slice_get_within new k e is in
      subst (λ (x : Entry). IsEntry fs x) (get_or_from_slice_get new k e e is) (All-permutation (λ e. IsEntry fs e) old new moved entry-at k e low)

  -- no two are of one place
  places-differ : Differ (map (λ (e : Entry). e.1) new)
  places-differ =
      IsPermutation-keeps (map (λ (e : Entry). e.1) old) Differ first differ-swap (map (λ (e : Entry). e.1) new)
      (IsPermutation-map (λ (e : Entry). e.1) old new moved)
    where
      at-place : (i : ℕ) → i < length old → get_or (map (λ (e : Entry). e.1) old) i 0 ≡ i
      at-place i low =
          let f = there-is fs i (omega (arith, low, long)) in
          let d : Entry = (0, 0) in
          get_or-map (λ (e : Entry). e.1) old i d 0 low
          ∙ ap (λ (e : Entry). e.1) (get_or_from_slice_get old i (f.0.line, i) d (are i f.0 f.1))

      first : Differ (map (λ (e : Entry). e.1) old)
      first i j less within same =
          let many = length-map old (λ (e : Entry). e.1) in
          let said : i ≡ j = sym (at-place i (omega (arith, less, within, many))) ∙ same ∙ at-place j (omega (arith, within, many)) in
          omega (arith, said, less)

  -- each comes before the next
  adjacent : (i : ℕ) (a b : Entry) → slice_get new i ≡ Some a → slice_get new (i + 1) ≡ Some b → IsBelow a b
  adjacent i a b first last =
      let low = slice_get_within new (i + 1) b last in
      let step = sorted i a (omega arith) low in
      let a-is = get_or_from_slice_get new i a a first in
      let b-is = get_or_from_slice_get new (i + 1) b a last in
      below-by a b ((λ k. is_lt (entry_cmp (sym b-is k) (sym a-is k))) ∙ step)

  -- and before those after it
  rise : (n i : ℕ) (a b : Entry) → slice_get new i ≡ Some a → slice_get new (i + suc n) ≡ Some b → IsBelow a b
  rise zero i a b first last = adjacent i a b first last
  rise (suc n) i a b first last =
      let low = slice_get_within new (i + suc (suc n)) b last in
      let mid = there-is new (i + suc n) (omega (arith, low)) in
      let next : (i + suc n) + 1 ≡ i + suc (suc n) = omega arith in
      below-then a mid.0 b (rise n i a mid.0 first mid.1) (adjacent (i + suc n) mid.0 b mid.1 (ap (slice_get new) next ∙ last))

  strict : (i j : ℕ) (a b : Entry) → i < j → slice_get new i ≡ Some a → slice_get new j ≡ Some b → (a.0 < b.0) ⊎ ((a.0 ≡ b.0) × (a.1 < b.1))
  strict i j a b less first last = elim (rise (j - suc i) i a b first (ap (slice_get new) (let e : i + suc (j - suc i) ≡ j = omega (arith, less) in e) ∙ last)) [
    | inl up ↦ inl up
    | inr same ↦ inr (
      same.0,
      elim (cases_lt a.1 b.1) [
        | inl up ↦ up
        | inr high ↦
            let low = same.1 in
            let one : a.1 ≡ b.1 = omega (arith, low, high) in
            let d : Entry = (0, 0) in
            let place : (k : ℕ) (e : Entry) → slice_get new k ≡ Some e → get_or (map (λ (e : Entry). e.1) new) k 0 ≡ e.1 = λ k e is.
            get_or-map (λ (e : Entry). e.1) new k d 0 (slice_get_within new k e is) ∙ ap (λ (e : Entry). e.1) (get_or_from_slice_get new k e d is) in
            let many = length-map new (λ (e : Entry). e.1) in
            let within = slice_get_within new j b last in
            absurd (places-differ i j less (omega (arith, within, many)) (place i a first ∙ one ∙ sym (place j b last)))
      ],
    )
  ]

  -- ---- the findings of these places

  module _ (gs : List Finding) (many : length gs ≡ length new) (each : (k : ℕ) (e : Entry) → slice_get new k ≡ Some e → slice_get gs k ≡ slice_get fs e.1) where
    -- they are in order
    pub resorted : AreInOrderAtLines fs → AreInOrder gs
    resorted order a b f g less first last =
        let low = slice_get_within gs a f first in
        let low' = slice_get_within gs b g last in
        let x = there-is new a (omega (arith, low, many)) in
        let y = there-is new b (omega (arith, low', many)) in
        let f-is : slice_get fs x.0.1 ≡ Some f = sym (each a x.0 x.1) ∙ first in
        let g-is : slice_get fs y.0.1 ≡ Some g = sym (each b y.0 y.1) ∙ last in
        let of-x = entry-of a x.0 x.1 in
        let of-y = entry-of b y.0 y.1 in
        let f-said : Some of-x.0 ≡ Some f = sym of-x.1 ∙ f-is in
        let g-said : Some of-y.0 ≡ Some g = sym of-y.1 ∙ g-is in
        let f-same : of-x.0 ≡ f = cc f-said in
        let g-same : of-y.0 ≡ g = cc g-said in
        let f-line : f.line ≡ x.0.0 = ap (λ (h : Finding). h.line) (sym f-same) ∙ of-x.2 in
        let g-line : g.line ≡ y.0.0 = ap (λ (h : Finding). h.line) (sym g-same) ∙ of-y.2 in
        elim (strict a b x.0 y.0 less x.1 y.1) [
          | inl up ↦ inl (omega (arith, up, f-line, g-line))
          | inr same ↦
              let one : f.line ≡ g.line = f-line ∙ same.0 ∙ sym g-line in
              inr (one, order x.0.1 y.0.1 f g same.1 f-is g-is one)
        ]

    -- and they are the same
    pub same-findings : (n : ℕ) (c : Clause) → IsAmong gs n c ↔ IsAmong fs n c
    same-findings n c = (
      λ among.
          let low = slice_get_within gs among.0 among.1 among.2 in
          let x = there-is new among.0 (omega (arith, low, many)) in
          (x.0.1, among.1, sym (each among.0 x.0 x.1) ∙ among.2, among.3, among.4),
      λ among.
          let k = among.0 in
          let e : Entry = (among.1.line, k) in
          let was = are k among.1 among.2 in
          let has = Contains-permutation old new e moved (k, slice_get_within old k e was, get_or_from_slice_get old k e e was) in
          let is : slice_get new has.0 ≡ Some e = slice_get-get_or new has.0 e has.1 ∙ ap Some has.2 in
          (has.0, among.1, each has.0 e is ∙ among.2, among.3, among.4),
    )

-- ---- findings that are taken by their places

-- The first of them stand as their entries say.
pub record AreGatheredTo (fs gs : List Finding) (es : List Entry) (k : ℕ) : Type 0 where
  pub long : length gs ≡ k
  pub each : (j : ℕ) (e : Entry) → j < k → slice_get es j ≡ Some e → slice_get gs j ≡ slice_get fs e.1

-- and one more
pub gathered-more : (fs gs gs' : List Finding) (es : List Entry) (k : ℕ) (e : Entry) (f : Finding) → slice_get es k ≡ Some e
    → slice_get fs e.1 ≡ Some f → gs' ≡ gs ++ f ∷ [] → AreGatheredTo fs gs es k → AreGatheredTo fs gs' es (k + 1)
gathered-more fs gs gs' es k e f is has more are =
    let long = are.long in record {
      long = ap length more ∙ length_push gs f ∙ ap (λ n. n + 1) long;
      each = λ j x low there. elim (cases_lt j k) [
        | inl before ↦
            subst (λ hs. slice_get hs j ≡ slice_get fs x.1) (sym more)
            (sym (same-step gs f j (omega (arith, before, long))) ∙ are.each j x before there)
        | inr last ↦
            let here : j ≡ length gs = omega (arith, low, last, long) in
            let said : Some e ≡ Some x = sym is ∙ ap (slice_get es) (let s : k ≡ j = omega (arith, low, last) in s) ∙ there in
            let same : e ≡ x = cc said in
            subst (λ hs. slice_get hs j ≡ slice_get fs x.1) (sym more)
            (ap (slice_get (gs ++ f ∷ [])) here ∙ last-is gs f ∙ sym has ∙ ap (λ (y : Entry). slice_get fs y.1) same)
      ];
    }

-- the entries that were made are those of the findings, and as many
pub entries-of : (fs items : List Finding) (es : List Entry) (k : ℕ) → items ≡ fs → length items ≤ k → k ≤ length items → length es ≡ k
    → ((j : ℕ) (f : Finding) → j < k → slice_get items j ≡ Some f → slice_get es j ≡ Some (f.line, j))
    → (length es ≡ length fs) × AreEntries fs es
entries-of fs items es k same end to long each =
    let many = ap length same in (
      omega (arith, end, to, long, many),
      λ j f is.
          let low = slice_get_within fs j f is in
          each j f (omega (arith, end, to, many, low)) (subst (λ (hs : List Finding). slice_get hs j ≡ Some f) (sym same) is),
    )

-- each entry is that of a finding, so there is one
pub never-past : (fs : List Finding) (e : Entry) → IsEntry fs e → false ≡ ltb e.1 (length fs) → ⊥
never-past fs e is past =
    let low = slice_get_within fs e.1 is.0 is.1 in
    let within : ltb e.1 (length fs) ≡ true = lt-ltb e.1 (length fs) low in
    let said : false ≡ true = past ∙ within in
    cc said

-- all are taken
pub gathered-all : (fs gs : List Finding) (es new : List Entry) (k : ℕ) → es ≡ new → length es ≤ k → k ≤ length es → AreGatheredTo fs gs es k
    → (length gs ≡ length new) × ((j : ℕ) (e : Entry) → slice_get new j ≡ Some e → slice_get gs j ≡ slice_get fs e.1)
gathered-all fs gs es new k same end to are =
    let many = ap length same in
    let long = are.long in (
      omega (arith, many, long, end, to),
      λ j e is.
          let low = slice_get_within new j e is in
          are.each j e (omega (arith, low, many, end, to)) (subst (λ (xs : List Entry). slice_get xs j ≡ Some e) (sym same) is),
    )
