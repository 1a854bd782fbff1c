-- Where an entry of a list in order is, or would go, and what the list shows once one came, changed or went there.
use Rattle.std.proofs.Common.{ℕ, zero, suc, ◌≡◌, ◌≢◌, ◌+◌, List, [], ◌∷◌, Option, Some, None, Result, Ok, Err, IfOk, IfErr, Bool, true, false, cond, T, not, map, length, slice_get, slice_set, get_or, refl, sym, ap, subst, ◌∙◌, arith}
use Rattle.std.specs.Prelude.{insert, remove, nat_eq}
use Rattle.std.specs.Cmp.Lexicographic.{pointwise}
use Rattle.std.specs.Option.{option_map}
use Rattle.std.specs.List.Sorted.{IsSortedBy, IsSearchInRange, IsBinarySearchResult}
use Rattle.std.specs.declared.cmp.Ordering.{Ordering}
use Rattle.std.specs.declared.cmp.Ordering.TheVariants.{Less, Equal, Greater}
use Rattle.std.specs.Ordering.{eq_by_cmp, is_lt, is_eq}
use Rattle.std.specs.FinMap.Entries.{find, is_sorted, below_all, put, where_key, by_order, is_sorted-put, find-put, is_sorted-where_key}
use Rattle.std.proofs.lemmas.Cmp.{nat_list_cmp_total, tied_itself}
use Rattle.std.proofs.lemmas.List.Sorted.{searchable_from_sorted}
use Rattle.std.proofs.lemmas.Map.Lookups.{exact_bytes}
use Rattle.std.proofs.lemmas.Option.{slice_get-get_or, slice_get_past}
use Rattle.lists.proofs.Maps.{find-other}
use Rattle.md_dirs.specs.declared.paths.Place.TheVariants.{New}
use Rattle.md_core.specs.Mailbox.{name_cmp}
use Rattle.md_listing.specs.declared.entry.Entry.{Entry}
use Rattle.md_listing.specs.Readings.{with_unique, IsInOrder}
use Rattle.md_view.specs.Held.{entry_with, renamed, HasAt, IsGapFor, DiffersAt}
use Rattle.md_listing.proofs.Keyed.{IsBelow, IsSorted, first, second, less, turned, tie-same, in-order, ordered}

-- two names that aren't one don't tie
pub apart : (u v : List ℕ) → u ≢ v → eq_by_cmp name_cmp u v ≡ false
apart u v not =
    elim (eq_by_cmp name_cmp u v) as (λ t. eq_by_cmp name_cmp u v ≡ t → t ≡ false) [ true ↦ λ t. absurd (not (tie-same u v t)) | false ↦ λ t. refl ] refl

-- entries that show of a unique name what they did
pub differs-not : (u : List ℕ) (what : Option Entry) (es : List Entry) → IsInOrder es → what ≡ entry_with u es → DiffersAt u what es es
differs-not u what es sorted is = record {
  order = sorted;
  at = λ v. elim (eq_by_cmp name_cmp v u) as (λ t. eq_by_cmp name_cmp v u ≡ t → entry_with v es ≡ cond t what (entry_with v es)) [
    | true ↦ λ t. ap (λ (w : List ℕ). entry_with w es) (tie-same v u t) ∙ sym is
    | false ↦ λ t. refl
  ] refl;
}

abbrev pub others : List ℕ → List (List ℕ × Entry) → List (List ℕ × Entry)
others u es = where_key name_cmp (λ x. not (eq_by_cmp name_cmp u x)) es

-- entries of which none has the name all stay when it goes
pub all-stay : (u : List ℕ) (es : List (List ℕ × Entry)) → T (below_all name_cmp u es) → others u es ≡ es
all-stay u [] below = refl
all-stay u (e ∷ es) below =
    ap (λ o. cond (not (is_eq o)) (e ∷ others u es) (others u es)) (less _ (first _ _ below))
    ∙ ap (λ (rest : List (List ℕ × Entry)). e ∷ rest) (all-stay u es (second _ _ below))

-- what entries show to which one came in its place, and from which one went
module _ (u : List ℕ) (old new : List Entry) (sorted : IsInOrder old) where
  pub put-shows : (e : Entry) → map with_unique new ≡ put name_cmp u e (map with_unique old) → DiffersAt u (Some e) old new
  put-shows e is = record {
    order = in-order _
        (subst (λ (es : List (List ℕ × Entry)). T (is_sorted name_cmp es)) (sym is) (is_sorted-put name_cmp nat_list_cmp_total u e (map with_unique old) (ordered _ sorted)));
    at = λ v. ap (find name_cmp v) is ∙ find-put name_cmp nat_list_cmp_total v u e (map with_unique old);
  }

  pub gone-shows : map with_unique new ≡ others u (map with_unique old) → DiffersAt u None old new
  gone-shows is = record {
    order = in-order _
        (subst (λ (es : List (List ℕ × Entry)). T (is_sorted name_cmp es)) (sym is)
        (is_sorted-where_key name_cmp (λ x. not (eq_by_cmp name_cmp u x)) (map with_unique old) (ordered _ sorted)));
    at = λ v. ap (find name_cmp v) is ∙ find-other nat_list_cmp_total exact_bytes u v (map with_unique old);
  }

none-past : (at : ℕ) (e : Entry) → slice_get [] at ≡ Some e → ⊥
none-past at e is = let never : None ≡ Some e = sym (slice_get_past [] at (omega arith)) ∙ is in cc

module _ (u : List ℕ) where
  -- how a list goes on behind an entry, by how the name compares
  put-on : (e x : Entry) (es : List Entry) (o : Ordering) → name_cmp u x.unique ≡ o
      → by_order o ((u, e) ∷ map with_unique (x ∷ es)) ((x.unique, e) ∷ map with_unique es) (with_unique x ∷ put name_cmp u e (map with_unique es))
      ≡ put name_cmp u e (map with_unique (x ∷ es))
  put-on e x es o is =
      ap (λ r. by_order r ((u, e) ∷ map with_unique (x ∷ es)) ((x.unique, e) ∷ map with_unique es) (with_unique x ∷ put name_cmp u e (map with_unique es))) (sym is)

  others-on : (x : Entry) (es : List Entry) (o : Ordering) → name_cmp u x.unique ≡ o
      → cond (not (is_eq o)) (with_unique x ∷ others u (map with_unique es)) (others u (map with_unique es)) ≡ others u (map with_unique (x ∷ es))
  others-on x es o is =
      ap (λ r. cond (not (is_eq r)) (with_unique x ∷ others u (map with_unique es)) (others u (map with_unique es))) (sym is)

  found-on : (x : Entry) (es : List Entry) (o : Ordering) → name_cmp u x.unique ≡ o → entry_with u (x ∷ es) ≡ cond (is_eq o) (Some x) (entry_with u es)
  found-on x es o is = ap (λ r. cond (is_eq r) (Some x) (entry_with u es)) is

  -- An entry of the name is at a position of a list in order: those in front are below it.
  module _ (old : Entry) (own : old.unique ≡ u) where
    is-own : (x : Entry) (es : List Entry) → slice_get (x ∷ es) 0 ≡ Some old → x.unique ≡ u
    is-own x es is = let one : Some x ≡ Some old = is in let same : x ≡ old = cc in ap (λ (e : Entry). e.unique) same ∙ own

    ties : (x : Entry) (es : List Entry) → slice_get (x ∷ es) 0 ≡ Some old → name_cmp u x.unique ≡ Equal
    ties x es is = ap (name_cmp u) (is-own x es is) ∙ tied_itself nat_list_cmp_total u

    below : (v : List ℕ) (es : List Entry) (at : ℕ) → IsBelow v es → slice_get es at ≡ Some old → name_cmp v u ≡ Less
    below v [] at all is = absurd (none-past at old is)
    below v (x ∷ es) zero all is = subst (λ (w : List ℕ). name_cmp v w ≡ Less) (is-own x es is) (less _ (first _ _ all))
    below v (x ∷ es) (suc at) all is = below v es at (second _ _ all) is

    behind : (x : Entry) (es : List Entry) (at : ℕ) → IsSorted (x ∷ es) → slice_get es at ≡ Some old → name_cmp u x.unique ≡ Greater
    behind x es at sorted is = turned u x.unique Less (below x.unique es at (first _ _ sorted) is)

    pub found-at : (es : List Entry) (at : ℕ) → IsSorted es → slice_get es at ≡ Some old → entry_with u es ≡ Some old
    found-at [] at sorted is = absurd (none-past at old is)
    found-at (x ∷ es) zero sorted is = found-on x es Equal (ties x es is) ∙ is
    found-at (x ∷ es) (suc at) sorted is = found-on x es Greater (behind x es at sorted is) ∙ found-at es at (second _ _ sorted) is

    keyed-set : (e : Entry) → e.unique ≡ u → (es : List Entry) (at : ℕ) → IsSorted es → slice_get es at ≡ Some old
        → map with_unique (slice_set es at e) ≡ put name_cmp u e (map with_unique es)
    keyed-set e self [] at sorted is = absurd (none-past at old is)
    keyed-set e self (x ∷ es) zero sorted is =
        ap (λ (v : List ℕ). (v, e) ∷ map with_unique es) (self ∙ sym (is-own x es is)) ∙ put-on e x es Equal (ties x es is)
    keyed-set e self (x ∷ es) (suc at) sorted is =
        ap (λ (l : List (List ℕ × Entry)). with_unique x ∷ l) (keyed-set e self es at (second _ _ sorted) is)
        ∙ put-on e x es Greater (behind x es at sorted is)

    keyed-remove : (es : List Entry) (at : ℕ) → IsSorted es → slice_get es at ≡ Some old → map with_unique (remove es at) ≡ others u (map with_unique es)
    keyed-remove [] at sorted is = absurd (none-past at old is)
    keyed-remove (x ∷ es) zero sorted is =
        sym (all-stay u (map with_unique es) (subst (λ (v : List ℕ). IsBelow v es) (is-own x es is) (first _ _ sorted)))
        ∙ others-on x es Equal (ties x es is)
    keyed-remove (x ∷ es) (suc at) sorted is =
        ap (λ (l : List (List ℕ × Entry)). with_unique x ∷ l) (keyed-remove es at (second _ _ sorted) is)
        ∙ others-on x es Greater (behind x es at sorted is)

  -- The name has a gap in a list: the entries in front are below it, and those behind above.

  gap-front : (x : Entry) (es : List Entry) (at : ℕ) → IsGapFor (x ∷ es) u (suc at) → name_cmp u x.unique ≡ Greater
  gap-front x es at gap = turned u x.unique Less (gap.before 0 x (omega arith) (omega arith))

  gap-tail : (x : Entry) (es : List Entry) (at : ℕ) → IsGapFor (x ∷ es) u (suc at) → IsGapFor es u at
  gap-tail x es at gap = record {
    in_range = omega (arith, gap.in_range);
    before = λ k d low high. gap.before (suc k) d (omega arith) (omega (arith, high));
    after = λ k d low high. gap.after (suc k) d (omega (arith, low)) (omega (arith, high));
  }

  gap-head : (x : Entry) (es : List Entry) → IsGapFor (x ∷ es) u 0 → name_cmp u x.unique ≡ Less
  gap-head x es gap = turned u x.unique Greater (gap.after 0 x (omega arith) (omega arith))

  gap-rest : (x : Entry) (es : List Entry) → IsGapFor (x ∷ es) u 0 → IsGapFor es u 0
  gap-rest x es gap = record {
    in_range = omega arith;
    before = λ k d low high. absurd (omega (arith, high));
    after = λ k d low high. gap.after (suc k) d (omega arith) (omega (arith, high));
  }

  pub found-none : (es : List Entry) (at : ℕ) → IsGapFor es u at → entry_with u es ≡ None
  found-none [] at gap = refl
  found-none (x ∷ es) zero gap = found-on x es Less (gap-head x es gap) ∙ found-none es 0 (gap-rest x es gap)
  found-none (x ∷ es) (suc at) gap = found-on x es Greater (gap-front x es at gap) ∙ found-none es at (gap-tail x es at gap)

  keyed-insert : (e : Entry) → e.unique ≡ u → (es : List Entry) (at : ℕ) → IsGapFor es u at
      → map with_unique (insert es at e) ≡ put name_cmp u e (map with_unique es)
  keyed-insert e self [] zero gap = ap (λ (v : List ℕ). (v, e) ∷ []) self
  keyed-insert e self [] (suc at) gap = absurd (omega (arith, gap.in_range))
  keyed-insert e self (x ∷ es) zero gap = ap (λ (v : List ℕ). (v, e) ∷ map with_unique (x ∷ es)) self ∙ put-on e x es Less (gap-head x es gap)
  keyed-insert e self (x ∷ es) (suc at) gap =
      ap (λ (l : List (List ℕ × Entry)). with_unique x ∷ l) (keyed-insert e self es at (gap-tail x es at gap)) ∙ put-on e x es Greater (gap-front x es at gap)

-- what a list in order shows after a change at the position of an entry, or in the gap for it
module _ (u : List ℕ) (es : List Entry) (order : IsInOrder es) (at : ℕ) where
  pub has-found : (h : HasAt es u at) → entry_with u es ≡ Some h.entry
  has-found h = found-at u h.entry h.unique es at (ordered _ order) h.is

  pub take-there : HasAt es u at → DiffersAt u None es (remove es at)
  take-there h = gone-shows u es (remove es at) order (keyed-remove u h.entry h.unique es at (ordered _ order) h.is)

  pub set-there : (e : Entry) → e.unique ≡ u → HasAt es u at → DiffersAt u (Some e) es (slice_set es at e)
  set-there e self h = put-shows u es (slice_set es at e) order e (keyed-set u h.entry h.unique e self es at (ordered _ order) h.is)

  pub put-there : (e : Entry) → e.unique ≡ u → IsGapFor es u at → DiffersAt u (Some e) es (insert es at e)
  put-there e self gap = put-shows u es (insert es at e) order e (keyed-insert u e self es at gap)

  -- an entry gets another name where it stands, if it has the old one
  module _ (name to_name : List ℕ) (h : HasAt es u at) where
    becomes : (b : Bool) → pointwise nat_eq h.entry.name name ≡ b
        → option_map (renamed name to_name) (entry_with u es) ≡ Some (cond b (record h.entry { name = to_name }) h.entry)
    becomes b is =
        ap (option_map (renamed name to_name)) (has-found h) ∙ ap (λ t. Some (cond t (record h.entry { name = to_name }) h.entry)) is

    pub rename-there : pointwise nat_eq h.entry.name name ≡ true
        → DiffersAt u (option_map (renamed name to_name) (entry_with u es)) es (slice_set es at (record h.entry { name = to_name }))
    rename-there is =
        subst (λ (o : Option Entry). DiffersAt u o es (slice_set es at (record h.entry { name = to_name }))) (sym (becomes true is))
        (set-there (record h.entry { name = to_name }) h.unique h)

    pub rename-other : pointwise nat_eq h.entry.name name ≡ false → DiffersAt u (option_map (renamed name to_name) (entry_with u es)) es es
    rename-other is = differs-not u _ es order (becomes false is ∙ sym (has-found h))

-- entries in order rise, as a search by halving asks
rises : (es : List Entry) → IsSorted es → IsSortedBy (λ a b. is_lt (name_cmp a.unique b.unique)) es
rises [] sorted k d from to = absurd (omega (arith, to))
rises (x ∷ []) sorted k d from to = absurd (omega (arith, to))
rises (x ∷ y ∷ es) sorted zero d from to = ap is_lt (turned y.unique x.unique Less (less _ (first _ _ (first _ _ sorted))))
rises (x ∷ y ∷ es) sorted (suc k) d from to =
    let next : suc (k + 1) ≡ suc k + 1 = omega arith in
    subst (λ j. is_lt (name_cmp (get_or (x ∷ y ∷ es) j d).unique (get_or (y ∷ es) k d).unique) ≡ false) next
    (rises (y ∷ es) (second _ _ sorted) k d (omega arith) (omega (arith, to)))

nothing : Entry
nothing = record { unique = []; place = New; name = []; size = 0 }

-- such a search ends at the entry of the name, or in the gap for it
pub searched : (u : List ℕ) (es : List Entry) → IsInOrder es → (r : Result ℕ ℕ) → IsSearchInRange r (length es)
    → IsBinarySearchResult (λ (e : Entry). name_cmp e.unique u) es r → record { found : IfOk r (HasAt es u); absent : IfErr r (IsGapFor es u) }
searched u es order (Ok at) within equal = record {
  found = record { within = within; entry = get_or es at nothing; is = slice_get-get_or es at nothing within; unique = exact_bytes _ _ (equal nothing) };
  absent = tt;
}
searched u es order (Err at) within parted =
    let point = parted (searchable_from_sorted nat_list_cmp_total (λ (e : Entry). e.unique) es u (rises es (ordered _ order))) in
    record { found = tt; absent = record { in_range = within; before = point.0; after = point.1 } }
