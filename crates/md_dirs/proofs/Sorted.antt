-- Where a key is in a list of rows in order.
use Rattle.std.proofs.Common.{◌⊎◌, inl, inr, ℕ, ◌≡◌, ◌+◌, ◌≤◌, ◌++◌, List, [], ◌∷◌, Some, None, Bool, true, cond, ◌&&◌, not, T, IsTrue, length, take, drop, refl, sym, ap, subst, ◌∙◌, arith, get_or, add-one, append-nil, ◌<◌}
use Rattle.std.proofs.lemmas.List.Edits.{insert_end}
use Rattle.std.proofs.lemmas.Cmp.{tied_itself}
use Rattle.std.specs.declared.cmp.Ordering.{Ordering}
use Rattle.std.specs.declared.cmp.Ordering.TheVariants.{Less, Equal, Greater}
use Rattle.std.specs.Ordering.{eq_by_cmp, is_lt, is_eq, ordering_reverse}
use Rattle.std.specs.FinMap.{find, is_sorted}
use Rattle.std.specs.FinMap.Entries.{put, where_key, below_all, by_order}
use Rattle.std.proofs.lemmas.List.{take-append-drop, drop_more, take_more, take_all, set_split}
use Rattle.md_dirs.specs.Plain.{IsAt, IsGap}
use Rattle.std.specs.Cmp.{IsTotalOrder}
use Rattle.std.proofs.lemmas.Map.Lookups.{CmpEqualImpliesEq}
use Rattle.lists.proofs.Booleans.{first, second, both, holds, is_true}
use Rattle.lists.proofs.Orders.{less, is_less}
use Rattle.lists.proofs.Members.{find-above, below-trans}

module _ {K : Type 0} (R : K → K → Ordering) where
  -- whether each key of the list is below that one
  abbrev pub all_below : K → List (K × ℕ) → Bool
  all_below p [] = true
  all_below p (e ∷ es) = is_lt (R e.0 p) && all_below p es

  -- the keys that aren't p
  abbrev pub other : K → K → Bool
  other p q = not (eq_by_cmp R p q)

  abbrev Sorted : List (K × ℕ) → Type 0
  Sorted es = T (is_sorted R es)

  -- the rows end at i, or the row there is above p
  abbrev pub EndsAbove : List (K × ℕ) → K → ℕ → Type 0
  EndsAbove rows p i = (i ≡ length rows) ⊎ ((e : K × ℕ) × (i < length rows) × (e ≡ get_or rows i e) × (R e.0 p ≡ Greater))

-- rows in a total order whose ties are equal, cut where a key's row is, or would be
module _ {K : Type 0} {R : K → K → Ordering} (total : IsTotalOrder R) (exact : CmpEqualImpliesEq R) where
  -- what is below p, p is above
  above : (p q : K) → T (is_lt (R q p)) → R p q ≡ Greater
  above p q h = total.antisymm p q ∙ ap ordering_reverse (less _ h)

  find-below : (p : K) (xs ys : List (K × ℕ)) → T (all_below R p xs) → find R p (xs ++ ys) ≡ find R p ys
  find-below p [] ys h = refl
  find-below p (x ∷ xs) ys h =
      ap (λ r. cond (is_eq r) (Some x.1) (find R p (xs ++ ys))) (above p x.0 (first _ _ h)) ∙ find-below p xs ys (second _ _ h)

  put-below : (p : K) (v : ℕ) (xs ys : List (K × ℕ)) → T (all_below R p xs) → put R p v (xs ++ ys) ≡ xs ++ put R p v ys
  put-below p v [] ys h = refl
  put-below p v (x ∷ xs) ys h =
      ap (λ r. by_order r ((p, v) ∷ x ∷ (xs ++ ys)) ((x.0, v) ∷ (xs ++ ys)) (x ∷ put R p v (xs ++ ys))) (above p x.0 (first _ _ h)) ∙
      ap (λ es. x ∷ es) (put-below p v xs ys (second _ _ h))

  where-below : (p : K) (xs ys : List (K × ℕ)) → T (all_below R p xs) → where_key R (other R p) (xs ++ ys) ≡ xs ++ where_key R (other R p) ys
  where-below p [] ys h = refl
  where-below p (x ∷ xs) ys h =
      ap (λ r. cond (not (is_eq r)) (x ∷ where_key R (other R p) (xs ++ ys)) (where_key R (other R p) (xs ++ ys)))
      (above p x.0 (first _ _ h)) ∙ ap (λ es. x ∷ es) (where-below p xs ys (second _ _ h))

  sorted-after : (xs ys : List (K × ℕ)) → T (is_sorted R (xs ++ ys)) → T (is_sorted R ys)
  sorted-after [] ys h = h
  sorted-after (x ∷ xs) ys h = sorted-after xs ys (second _ _ h)

  all_below_more : (p : K) (xs : List (K × ℕ)) (e : K × ℕ) → T (all_below R p xs) → R e.0 p ≡ Less → T (all_below R p (xs ++ e ∷ []))
  all_below_more p [] e h is = both _ _ (is_less _ is) tt
  all_below_more p (x ∷ xs) e h is = both _ _ (first _ _ h) (all_below_more p xs e (second _ _ h) is)

  all_below-take : (p : K) (rows : List (K × ℕ)) (i : ℕ) (e : K × ℕ) → IsTrue (all_below R p (take i rows)) → i < length rows →
      e ≡ get_or rows i e → R e.0 p ≡ Less → IsTrue (all_below R p (take (i + 1) rows))
  all_below-take p rows i e h within is less =
      let one : take (i + 1) rows ≡ take i rows ++ e ∷ [] = take_more rows i e within ∙ ap (λ x. take i rows ++ x ∷ []) (sym is) in
      is_true _ (subst (λ xs. T (all_below R p xs)) (sym one) (all_below_more p (take i rows) e (holds _ h) less))

  pub where-above : (p : K) (es : List (K × ℕ)) → T (below_all R p es) → where_key R (other R p) es ≡ es
  where-above p [] h = refl
  where-above p (e ∷ es) h =
      ap (λ r. cond (not (is_eq r)) (e ∷ where_key R (other R p) es) (where_key R (other R p) es)) (less _ (first _ _ h)) ∙
      ap (λ xs. e ∷ xs) (where-above p es (second _ _ h))

  at_cut : (p : K) (xs ys : List (K × ℕ)) (file : ℕ) → Sorted R (xs ++ (p, file) ∷ ys) → T (all_below R p xs) →
      (find R p (xs ++ (p, file) ∷ ys) ≡ Some file) × (where_key R (other R p) (xs ++ (p, file) ∷ ys) ≡ xs ++ ys) ×
      ((v : ℕ) → put R p v (xs ++ (p, file) ∷ ys) ≡ xs ++ (p, v) ∷ ys)
  at_cut p xs ys file sorted below =
      let rest = sorted-after xs ((p, file) ∷ ys) sorted in
      let tie : eq_by_cmp R p p ≡ true = ap is_eq (tied_itself total p) in (
        find-below p xs ((p, file) ∷ ys) below ∙ ap (λ b. cond b (Some file) (find R p ys)) tie,
        where-below p xs ((p, file) ∷ ys) below ∙
            ap (λ zs. xs ++ zs) (ap (λ b. cond (not b) ((p, file) ∷ where_key R (other R p) ys) (where_key R (other R p) ys)) tie ∙
            where-above p ys (first _ _ rest)),
        λ v. put-below p v xs ((p, file) ∷ ys) below ∙
            ap (λ r. xs ++ by_order r ((p, v) ∷ (p, file) ∷ ys) ((p, v) ∷ ys) ((p, file) ∷ put R p v ys)) (tied_itself total p),
      )

  -- at the first row that isn't below p: it is p's
  pub at : (rows : List (K × ℕ)) (p : K) (i : ℕ) (e : K × ℕ) → IsTrue (is_sorted R rows) → IsTrue (all_below R p (take i rows)) →
      i < length rows → e ≡ get_or rows i e → R e.0 p ≡ Equal → IsAt R rows p i
  at rows p i e sorted below within is tie =
      let key : e ≡ (p, e.1) = λ k. (exact e.0 p tie k, e.1) in
      let here : drop i rows ≡ (p, e.1) ∷ drop (i + 1) rows = drop_more rows i e within ∙ ap (λ x. x ∷ drop (i + 1) rows) (sym is ∙ key) in
      let parted : take i rows ++ (p, e.1) ∷ drop (i + 1) rows ≡ rows = ap (λ xs. take i rows ++ xs) (sym here) ∙ take-append-drop i rows in
      let cut = at_cut p (take i rows) (drop (i + 1) rows) e.1 (subst (Sorted R) (sym parted) (holds _ sorted)) (holds _ below) in
      record {
        within = within;
        found = (e.1, here, ap (find R p) (sym parted) ∙ cut.0);
        replaced = λ v. ap (put R p v) (sym parted) ∙ cut.2 v ∙ ap (λ k. take i rows ++ (p, v) ∷ drop k rows) (add-one i) ∙
            sym (set_split rows i (p, v) within);
        taken_out = ap (where_key R (other R p)) (sym parted) ∙ cut.1 ∙ ap (λ k. take i rows ++ drop k rows) (add-one i);
      }

  gap_cut : (p : K) (xs ys : List (K × ℕ)) (e : K × ℕ) → Sorted R (xs ++ e ∷ ys) → T (all_below R p xs) → R p e.0 ≡ Less →
      (find R p (xs ++ e ∷ ys) ≡ None) × ((file : ℕ) → put R p file (xs ++ e ∷ ys) ≡ xs ++ (p, file) ∷ e ∷ ys)
  gap_cut p xs ys e sorted below is =
      let rest = sorted-after xs (e ∷ ys) sorted in (
        find-below p xs (e ∷ ys) below ∙ find-above R p (e ∷ ys) (both _ _ (is_less _ is) (below-trans total p e.0 ys is (first _ _ rest))),
        λ file. put-below p file xs (e ∷ ys) below ∙ ap (λ r. xs ++ by_order r ((p, file) ∷ e ∷ ys) ((e.0, file) ∷ ys) (e ∷ put R p file ys)) is,
      )

  pub gap : (rows : List (K × ℕ)) (p : K) (i : ℕ) (e : K × ℕ) → IsTrue (is_sorted R rows) → IsTrue (all_below R p (take i rows)) →
      i < length rows → e ≡ get_or rows i e → R e.0 p ≡ Greater → IsGap R rows p i
  gap rows p i e sorted below within is above =
      let here : drop i rows ≡ e ∷ drop (i + 1) rows = drop_more rows i e within ∙ ap (λ x. x ∷ drop (i + 1) rows) (sym is) in
      let parted : take i rows ++ e ∷ drop (i + 1) rows ≡ rows = ap (λ xs. take i rows ++ xs) (sym here) ∙ take-append-drop i rows in
      let cut = gap_cut p (take i rows) (drop (i + 1) rows) e (subst (Sorted R) (sym parted) (holds _ sorted)) (holds _ below) (total.antisymm p e.0 ∙
      ap ordering_reverse above) in
      record {
        within = omega arith;
        absent = ap (find R p) (sym parted) ∙ cut.0;
        placed = λ file. ap (put R p file) (sym parted) ∙ cut.1 file ∙ ap (λ zs. take i rows ++ (p, file) ∷ zs) (sym here);
      }

  pub gap_end : (rows : List (K × ℕ)) (p : K) (i : ℕ) → IsTrue (all_below R p (take i rows)) → length rows ≤ i → IsGap R rows p (length rows)
  gap_end rows p i passed over =
      let below = subst (λ xs. T (all_below R p xs)) (take_all i rows over) (holds _ passed) in
      let whole : rows ++ [] ≡ rows = append-nil rows in
      record {
        within = omega arith;
        absent = ap (find R p) (sym whole) ∙ find-below p rows [] below;
        placed = λ file. ap (put R p file) (sym whole) ∙ put-below p file rows [] below ∙ sym (insert_end rows (p, file));
      }

  -- what is above a row is above all before it
  below-in : (q : K) (xs ys : List (K × ℕ)) (e : K × ℕ) → T (below_all R q (xs ++ e ∷ ys)) → T (is_lt (R q e.0))
  below-in q [] ys e h = first _ _ h
  below-in q (x ∷ xs) ys e h = below-in q xs ys e (second _ _ h)

  below-row : (xs ys : List (K × ℕ)) (e : K × ℕ) → Sorted R (xs ++ e ∷ ys) → T (all_below R e.0 xs)
  below-row [] ys e h = tt
  below-row (x ∷ xs) ys e h = both _ _ (below-in x.0 xs ys e (first _ _ h)) (below-row xs ys e (second _ _ h))

  all_below-trans : (p q : K) (xs : List (K × ℕ)) → T (all_below R p xs) → R p q ≡ Less → T (all_below R q xs)
  all_below-trans p q [] h is = tt
  all_below-trans p q (x ∷ xs) h is =
      both _ _ (is_less _ (total.trans x.0 p q (less _ (first _ _ h)) is)) (all_below-trans p q xs (second _ _ h) is)

  before-row : (rows : List (K × ℕ)) (i : ℕ) (e : K × ℕ) → IsTrue (is_sorted R rows) → i < length rows → e ≡ get_or rows i e →
      T (all_below R e.0 (take i rows))
  before-row rows i e sorted within is =
      let here : drop i rows ≡ e ∷ drop (i + 1) rows = drop_more rows i e within ∙ ap (λ x. x ∷ drop (i + 1) rows) (sym is) in
      let parted : take i rows ++ e ∷ drop (i + 1) rows ≡ rows = ap (λ xs. take i rows ++ xs) (sym here) ∙ take-append-drop i rows in
      below-row (take i rows) (drop (i + 1) rows) e (subst (Sorted R) (sym parted) (holds _ sorted))

  -- a row in the middle that is below p: so is all up to it
  pub all_below-to : (rows : List (K × ℕ)) (p : K) (i : ℕ) (e : K × ℕ) → IsTrue (is_sorted R rows) → i < length rows →
      e ≡ get_or rows i e → R e.0 p ≡ Less → IsTrue (all_below R p (take (i + 1) rows))
  all_below-to rows p i e sorted within is less =
      all_below-take p rows i e (is_true _ (all_below-trans e.0 p (take i rows) (before-row rows i e sorted within is) less)) within is less

  -- a row in the middle that is p's
  pub at-row : (rows : List (K × ℕ)) (p : K) (i : ℕ) (e : K × ℕ) → IsTrue (is_sorted R rows) → i < length rows → e ≡ get_or rows i e →
      R e.0 p ≡ Equal → IsAt R rows p i
  at-row rows p i e sorted within is tie =
      at rows p i e sorted (is_true _ (subst (λ q. T (all_below R q (take i rows))) (exact e.0 p tie) (before-row rows i e sorted within is))) within is tie

  -- where what is below p meets what is above it
  pub gap-between : (rows : List (K × ℕ)) (p : K) (low high : ℕ) → IsTrue (is_sorted R rows) → IsTrue (all_below R p (take low rows)) →
      low ≡ high → EndsAbove R rows p high → IsGap R rows p low
  gap-between rows p low high sorted below meet ends = elim (subst (EndsAbove R rows p) (sym meet) ends) [
    | inl end ↦ subst (IsGap R rows p) (sym end) (gap_end rows p low below (omega arith))
    | inr (e, within, is, above) ↦ gap rows p low e sorted below within is above
  ]
